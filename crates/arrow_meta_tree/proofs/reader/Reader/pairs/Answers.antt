use Rattle.std.proofs.Common.{◌≡◌, ℕ, Some, ap, ◌∙◌, option_map}
use Rattle.std.proofs.lemmas.Result.{err_from_is_err_and}
use Rattle.arrow_flatbuf.specs.Place.{past}
use Rattle.arrow_flatbuf.specs.Table.{field_place}
use Rattle.arrow_flatbuf.specs.Vector.{vector_at}
use Rattle.arrow_meta_tree.specs.Grows.{field_grows}
use Rattle.arrow_meta_tree.specs.Lies.{pairs_from, leaf_layer}
use Rattle.arrow_meta_tree.specs.Trees.{pairs}
use Rattle.arrow_meta_tree.specs.Reads.{room, ends_unreadable, ends_refused}
use Rattle.arrow_meta_tree.specs.declared.kinds.FieldForm.TheVariants as forms
use Rattle.arrow_meta_tree.proofs.Layers.{layer_there, unreadable}
use Rattle.arrow_meta_tree.proofs.Ending.{nothing_spent}
use Rattle.arrow_meta_tree.proofs.Pairs.{some_pairs}
use Rattle.arrow_meta_tree.proofs.reader.Reader.pairs.Goals as goal

pub returns-in_err-vector-clause-read : goal.returns-in_err-vector-clause-read
returns-in_err-vector-clause-read c =
    λ most. let there = c.in_err-vector.ensures.answer in
    let failed = err_from_is_err_and c.from_residual.result c.from_residual.ensures.1 in
    rw (failed.1, failed.2) (unreadable c.args.table.now.bytes forms.Pairs (field_place c.args.table.now c.args.field) most (room c.args.self.now) there.0 there.1
    (ap (option_map (λ v. leaf_layer (pairs (pairs_from c.args.table.now.bytes v.place v.count)))) there.2))

pub returns-in_err-pairs_of-in-Some-clause-read : goal.returns-in_err-pairs_of-in-Some-clause-read
returns-in_err-pairs_of-in-Some-clause-read c =
    λ most. let b = c.args.table.now.bytes in
    let v = c.in-Some.vector in
    let there : (p : ℕ) × (field_place c.args.table.now c.args.field ≡ Some p) × (past (vector_at 16) b p ≡ Some v) = rw c.in-Some.is at c.in_ok-vector.ensures.answer in
    let failed = err_from_is_err_and c.from_residual-in_err-pairs_of-in-Some.result c.from_residual-in_err-pairs_of-in-Some.ensures.1 in
    rw (failed.1, failed.2) (field_grows (layer_there b forms.Pairs _ there.0 there.1 ∙ ap (option_map (λ v. leaf_layer (pairs (pairs_from b v.place v.count)))) there.2)
    (some_pairs b v.place v.count c.in_err-pairs_of-in-Some.ensures.some))

pub returns-in_err-vector-clause-ends : goal.returns-in_err-vector-clause-ends
returns-in_err-vector-clause-ends c =
    let there = c.in_err-vector.ensures.answer in
    let failed = err_from_is_err_and c.from_residual.result c.from_residual.ensures.1 in
    rw (failed.1, failed.2) (λ most. ends_unreadable (layer_there c.args.table.now.bytes forms.Pairs _ there.0 there.1
    ∙ ap (option_map (λ v. leaf_layer (pairs (pairs_from c.args.table.now.bytes v.place v.count)))) there.2))

pub returns-in_err-pairs_of-in-Some-clause-ends : goal.returns-in_err-pairs_of-in-Some-clause-ends
returns-in_err-pairs_of-in-Some-clause-ends c =
    let b = c.args.table.now.bytes in
    let v = c.in-Some.vector in
    let there : (p : ℕ) × (field_place c.args.table.now c.args.field ≡ Some p) × (past (vector_at 16) b p ≡ Some v) = rw c.in-Some.is at c.in_ok-vector.ensures.answer in
    let failed = err_from_is_err_and c.from_residual-in_err-pairs_of-in-Some.result c.from_residual-in_err-pairs_of-in-Some.ensures.1 in
    rw (failed.1, failed.2) (λ most. ends_refused (pairs (pairs_from b v.place v.count)) (layer_there b forms.Pairs _ there.0 there.1 ∙ ap (option_map (λ v. leaf_layer (pairs (pairs_from b v.place v.count)))) there.2)
    (some_pairs b v.place v.count c.in_err-pairs_of-in-Some.ensures.some) (nothing_spent _))
