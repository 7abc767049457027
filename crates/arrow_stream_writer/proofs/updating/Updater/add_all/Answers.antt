use Rattle.std.proofs.Common.{◌≡◌, ◌<◌, ◌+◌, length, sym, refl, rules, ap, ◌∙◌, subst, Ok, Err, w64, to_z, of_z, slice_index_or, pos, take}
use Rattle.std.proofs.lemmas.Result.{err_from_is_err_and}
use Rattle.arrow_types.specs.Notes.{SchemaShape}
use Rattle.arrow_types.specs.Schema.{dictionary_ids}
use Rattle.arrow_stream_laws.specs.Plan.{sendings}
use Rattle.arrow_stream_laws.specs.Rows.{list_of}
use Rattle.arrow_stream_writer.specs.Lists.{dictionary_in}
use Rattle.arrow_stream_writer.specs.Terms.{terms_of}
use Rattle.arrow_stream_writer.specs.Updating.{AddsAll, IsWorkOf, work_of}
use Rattle.arrow_stream_writer.proofs.Adding.{adds_list, goes_on, refused_at}
use Rattle.arrow_stream_writer.proofs.updating.Updater.add_all.Goals as goal

-- a rejection at one id is a rejection of all
pub returns-in_err-add_one : goal.returns-in_err-add_one
returns-in_err-add_one c t same lists =
    let settings = c.args.self.now.settings.now in
    let terms = terms_of settings in
    let find = dictionary_in c.args.self.now.lists.now in
    let ids = c.dictionary_ids-ids.result.now in
    let id = slice_index_or ids c.loop-k.k (pos 0) in
    let h : c.loop-k.k < length ids = search rules in
    let passed : to_z w64 (of_z w64 id) ≡ id = search rules in
    let are : ids ≡ dictionary_ids terms.shape.fields = c.dictionary_ids-ids.ensures ∙ ap (λ (shape : SchemaShape). dictionary_ids shape.fields) c.deref.ensures in
    let old = work_of c.loop-k.part.bytes.items c.loop-k.tracker in
    let new = work_of c.add_one.new.part.bytes.items c.add_one.new.tracker in
    let so_far = c.loop-k.invariant t same lists in
    let one = adds_list terms find t ids c.loop-k.k id (to_z w64 (of_z w64 id)) (Err c.in_err-add_one.field-0.0) old new same lists are h refl passed c.in_err-add_one.ensures in
    let start = work_of c.args.part.now.bytes.items c.args.tracker.now in
    let failed = err_from_is_err_and c.from_residual.result c.from_residual.ensures.1 in
    rw (failed.1, failed.2) (subst (λ xs. AddsAll terms (sendings settings.updates c.args.tracker.now.sent (list_of t) xs) start (Err c.in_err-add_one.field-0.0) new) are
    (refused_at terms c.args.tracker.now.sent (list_of t) ids c.loop-k.k id c.in_err-add_one.field-0.0 start old new h refl refl so_far.sent one))

-- one more id
pub loop-k-preserved : goal.loop-k-preserved
loop-k-preserved c t same lists =
    let settings = c.args.self.now.settings.now in
    let terms = terms_of settings in
    let find = dictionary_in c.args.self.now.lists.now in
    let ids = c.dictionary_ids-ids.result.now in
    let id = slice_index_or ids c.loop-k.k (pos 0) in
    let h : c.loop-k.k < length ids = search rules in
    let passed : to_z w64 (of_z w64 id) ≡ id = search rules in
    let are : ids ≡ dictionary_ids terms.shape.fields = c.dictionary_ids-ids.ensures ∙ ap (λ (shape : SchemaShape). dictionary_ids shape.fields) c.deref.ensures in
    let old = work_of c.loop-k.part.bytes.items c.loop-k.tracker in
    let new = work_of c.add_one.new.part.bytes.items c.add_one.new.tracker in
    let sent = c.args.tracker.now.sent in
    let so_far = subst (λ xs. IsWorkOf terms sent (sendings settings.updates sent (list_of t) (take c.loop-k.k xs)) old) (sym are) (c.loop-k.invariant t same lists) in
    let one = adds_list terms find t ids c.loop-k.k id (to_z w64 (of_z w64 id)) (Ok tt) old new same lists are h refl passed c.in_ok-add_one.ensures in
    subst (λ xs. IsWorkOf terms sent (sendings settings.updates sent (list_of t) (take (c.loop-k.k + 1) xs)) new) are
    (goes_on terms sent (list_of t) ids c.loop-k.k id old new h refl so_far one)
