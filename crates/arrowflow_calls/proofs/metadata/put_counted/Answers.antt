use Rattle.std.proofs.Common.{length, arith}
use Rattle.arrow_bits.specs.Numbers.{number_bytes}
use Rattle.arrowflow_calls.proofs.Writing.{puts_more}
use Rattle.arrowflow_calls.proofs.metadata.put_counted.Goals as goal

-- the bytes follow their number
pub returns-clause-puts : goal.returns-clause-puts
returns-clause-puts c =
    let bytes = c.args.bytes.now in
    let number = c.put_number-pen in
    puts_more c.args.room.now number.new.room c.put.new.room c.args.pen number.result c.put.result (number_bytes 4 (length bytes)) bytes
    (omega (arith, number.ensures.fits)) number.ensures.puts c.put.ensures.puts
