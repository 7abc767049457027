use Rattle.std.proofs.Common.{◌-◌, Ok, ap, sym, ◌∙◌, subst, arith, rules, length-drop}
use Rattle.std.proofs.lemmas.Result.{err_from_is_err_and}
use Rattle.arrow_body_writer.specs.Storing.{body_view}
use Rattle.arrow_types.specs.Notes.{SchemaShape}
use Rattle.arrow_types.specs.Schema.{IsSchema}
use Rattle.arrow_stream_writer.specs.Framing.{part_bytes, update_load}
use Rattle.arrow_stream_writer.specs.Terms.{terms_of}
use Rattle.arrow_stream_writer.specs.Updating.{PutsUpdate, sending_of}
use Rattle.arrow_stream_writer.proofs.Rests.{puts_update, refuses_rest, refuses_update, stored_rest}
use Rattle.arrow_stream_writer.proofs.settings.Settings.put_update.Goals as goal

-- the values were not stored
pub returns-in-Err : goal.returns-in-Err
returns-in-Err c named =
    let terms = terms_of c.args.self.now in
    let update = c.args.update.now in
    let limit = c.max_rows.ensures.value in
    let ceiling = c.max_rows.ensures.ceiling in
    let known = subst (λ (shape : SchemaShape). IsSchema shape.fields) c.deref.ensures c.fields.ensures.limits in
    rw c.not_stored.ensures (refuses_rest terms update.id update.is_delta update.from update.dictionary.now named (omega arith) known c.in-Err.fault c.in-Err.ensures.large c.args.part.now.bytes.items c.args.part.now.bytes.items)

-- no head was built for what was stored
pub returns-in_err-put_stored : goal.returns-in_err-put_stored
returns-in_err-put_stored c named =
    let terms = terms_of c.args.self.now in
    let update = c.args.update.now in
    let d = update.dictionary.now in
    let known = c.in_default.ensures in
    let stored = stored_rest terms update.id update.is_delta update.from d named (body_view c.store_rest_in-stored.new.body) known.raws known.represented.small known.same in
    let rows = length-drop update.from d.values ∙ ap (λ n. n - update.from) (sym c.len-len.ensures) in
    let failed = err_from_is_err_and c.from_residual.result c.from_residual.ensures.1 in
    rw (failed.1, failed.2)
    (refuses_update terms update.id update.is_delta update.from d named c.in_err-put_stored.field-0.0 c.args.part.now.bytes.items (part_bytes c.put_stored.new.part) c.put_stored.new.part.bytes.items
    (c.in_err-put_stored.ensures (update_load terms.shape.fields (sending_of update)) (search rules) rows stored))

-- they were stored
pub returns : goal.returns
returns c named =
    let terms = terms_of c.args.self.now in
    let update = c.args.update.now in
    let d = update.dictionary.now in
    let known = c.in_default.ensures in
    let stored = stored_rest terms update.id update.is_delta update.from d named (body_view c.store_rest_in-stored.new.body) known.raws known.represented.small known.same in
    let rows = length-drop update.from d.values ∙ ap (λ n. n - update.from) (sym c.len-len.ensures) in
    let limit = c.max_rows.ensures.value in
    let long = c.len-len.ensures in
    let few_rows = c.if-len-max_rows.false in
    subst (PutsUpdate terms (sending_of update) c.args.part.now.bytes.items (Ok tt)) (sym c.in_ok-append_body.ensures.bytes)
    (puts_update terms update.id update.is_delta update.from d named c.args.part.now.bytes.items (part_bytes c.put_stored.new.part) (omega arith)
    (c.in_ok-put_stored.ensures (update_load terms.shape.fields (sending_of update)) (search rules) rows stored))
