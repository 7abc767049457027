use Rattle.std.proofs.Common.{ℕ, ◌+◌, subst, sym, ◌∙◌}
use Rattle.arrow_flatbuf.specs.Layout.{slots_end}
use Rattle.arrow_flatbuf.specs.Placed.{SlotsFit}
use Rattle.std.proofs.lemmas.Result.{on_err_weaker}
use Rattle.arrow_flatbuf.proofs.Writing.{table_at_end, begun, begun_more, begun_again}
use Rattle.arrow_flatbuf.proofs.writer.TableWriter.table_parts.Goals as goal

pub fields-requires-clause-fits : goal.fields-requires-clause-fits
fields-requires-clause-fits c =
    let P : ℕ → Type 0 = λ n. SlotsFit (n + slots_end 4 c.args.slots.now) c.args.slots.now in
    let at = table_at_end _ _ _ _ _ _ _ _ c.args.slots.now c.in_ok-pad.ensures.ok c.in_ok-number.ensures.ok c.in_ok-number-2.ensures.ok c.in_ok-entries.ensures.ok c.in_ok-pad-2.ensures.ok in
    subst P (sym (c.place-table.ensures ∙ at)) c.requires.fits

-- If the last part fails, the bytes still begin with the earlier ones.
pub returns-clause-err : goal.returns-clause-err
returns-clause-err c =
    let old = c.args.self.now in
    let padded = begun old c.pad.new.self _ c.in_ok-pad.ensures.ok in
    let sized = begun_more old c.pad.new.self c.number.new.self _ c.in_ok-number.ensures.ok padded in
    let ended = begun_more old c.number.new.self c.number-2.new.self _ c.in_ok-number-2.ensures.ok sized in
    let entered = begun_more old c.number-2.new.self c.entries.new.self _ c.in_ok-entries.ensures.ok ended in
    let aligned = begun_more old c.entries.new.self c.pad-2.new.self _ c.in_ok-pad-2.ensures.ok entered in
    let placed = begun_more old c.pad-2.new.self c.number-3.new.self _ c.in_ok-number-3.ensures.ok aligned in
    on_err_weaker c.fields.result (λ e. begun_again old c.number-3.new.self c.fields.new.self e placed) c.fields.ensures.err
