use Rattle.std.proofs.Common.{◌++◌, arith}
use Rattle.csv.specs.Writing.{default_writer, quoted}
use Rattle.arrow_csv.proofs.Chunked.{mark_written, run_written}
use Rattle.arrow_csv.proofs.fields.push_quoted.Goals as goal

-- the bytes up to a double quote, and that one twice
pub loop-from-preserved-then-end-field : goal.loop-from-preserved-then-end-field
loop-from-preserved-then-end-field c =
    let field = c.args.field.now in
    let whole = c.args.out.now.items ++ quoted default_writer field in
    let end = c.quote_place-end in
    let run = run_written field c.loop-from.out.items c.extend_from_slice.new.self.items whole c.loop-from.from end.result c.loop-from.invariant.0 end.ensures.value c.loop-from.invariant.1 c.in_ok-extend_from_slice.ensures.items in (
      omega (arith, c.if-end-field.true),
      mark_written field c.extend_from_slice.new.self.items c.extend_from_slice-then-end-field.new.self.items whole c.loop-from.from end.result c.loop-from.invariant.0 end.ensures.value c.if-end-field.true run c.in_ok-extend_from_slice-2.ensures.items,
    )

-- the bytes up to the end
pub loop-from-preserved : goal.loop-from-preserved
loop-from-preserved c =
    let field = c.args.field.now in
    let whole = c.args.out.now.items ++ quoted default_writer field in
    let end = c.quote_place-end in (
      end.ensures.inside,
      run_written field c.loop-from.out.items c.extend_from_slice.new.self.items whole c.loop-from.from end.result c.loop-from.invariant.0 end.ensures.value c.loop-from.invariant.1 c.in_ok-extend_from_slice.ensures.items,
    )
