use Rattle.std.proofs.Common.{refl, sym, ap, ◌∙◌, ◌+◌}
use Rattle.arrowflow_input.specs.Bounds.{messages_by, messages_in, rows_by, rows_in}
use Rattle.arrowflow_input.proofs.Cutting.{bytes_pass, counted_more, kept_by, messages_pass, none_counted, rows_pass}
use Rattle.arrowflow_input.proofs.counting.Counts.with.Goals as goal

pub returns-in-Err : goal.returns-in-Err
returns-in-Err c entries counted x is ends =
    (refl, messages_pass c.args.self.whole entries x c.messages_of.result c.in-Err.limit (c.messages_of.ensures ∙ ap messages_by (sym is)) (c.in-Err.ensures (messages_in entries) counted.messages))

pub returns-in-Err-counted : goal.returns-in-Err-counted
returns-in-Err-counted c entries counted x is ends =
    (refl, rows_pass c.args.self.whole entries x c.rows_of.result c.in-Err-counted.limit (c.rows_of.ensures ∙ ap rows_by (sym is)) (c.in-Err-counted.ensures (rows_in entries) counted.rows))

pub returns-in-Ok-counted-2 : goal.returns-in-Ok-counted-2
returns-in-Ok-counted-2 c entries counted x is ends =
    let whole = c.args.self.whole in
    counted_more whole entries x (record { whole = whole; rows = c.in-Ok-counted.rows; messages = c.in-Ok.messages }) c.messages_of.result c.rows_of.result c.place.result refl (c.messages_of.ensures ∙ ap messages_by (sym is)) (c.rows_of.ensures ∙ ap rows_by (sym is)) (c.place.ensures.place ∙ sym ends)
    (c.in-Ok.ensures (messages_in entries) counted.messages) (c.in-Ok-counted.ensures (rows_in entries) counted.rows) (kept_by whole.bytes c.in-Ok-counted-2.field-0 (0 + c.place.result) (c.in-Ok-counted-2.ensures 0 (none_counted whole.bytes)))

pub returns-in-Err-counted-2 : goal.returns-in-Err-counted-2
returns-in-Err-counted-2 c entries counted x is ends =
    (refl, bytes_pass c.args.self.whole entries x c.place.result c.in-Err-counted-2.limit (c.place.ensures.place ∙ sym ends) (c.in-Err-counted-2.ensures 0 (none_counted c.args.self.whole.bytes)))
