use Rattle.arrowflow_input.proofs.Feeding.{out_inside, on_err-always}
use Rattle.arrowflow_input.proofs.session.receive.Goals as goal

pub returns-in_err-reader_dictionaries-clause-inside : goal.returns-in_err-reader_dictionaries-clause-inside
returns-in_err-reader_dictionaries-clause-inside c = on_err-always _ (out_inside c.args.bytes.now c.in_ok-handed.handed.items c.hand_out.new.reader c.in_ok-handed.ensures.handed)
