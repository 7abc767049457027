use Rattle.std.proofs.Common.{◌≡◌, ℕ, Some, ap, ◌∙◌, option_map, length, arith}
use Rattle.std.proofs.lemmas.Result.{err_from_is_err_and}
use Rattle.arrow_flatbuf.specs.Place.{past}
use Rattle.arrow_flatbuf.specs.Table.{field_place}
use Rattle.arrow_flatbuf.specs.Text.{text_at}
use Rattle.arrow_meta_tree.specs.Grows.{field_grows}
use Rattle.arrow_meta_tree.specs.Lies.{leaf_layer}
use Rattle.arrow_meta_tree.specs.Trees.{text}
use Rattle.arrow_meta_tree.specs.declared.kinds.FieldForm.TheVariants as forms
use Rattle.arrow_meta_tree.proofs.Layers.{layer_there, none_fits, too_long}
use Rattle.arrow_meta_tree.proofs.Spots.{faulty_so}
use Rattle.arrow_meta_tree.specs.Reads.{ends_unreadable, room}
use Rattle.arrow_meta_tree.proofs.Ending.{ends_copy}
use Rattle.arrow_meta_tree.proofs.reader.Reader.text.Goals as goal

pub returns-in_err-text-clause-read : goal.returns-in_err-text-clause-read
returns-in_err-text-clause-read c =
    λ most. let there = c.in_err-text.ensures.answer in
    let failed = err_from_is_err_and c.from_residual.result c.from_residual.ensures.1 in
    rw (failed.1, failed.2) (none_fits _ _ _ _ (layer_there c.args.table.now.bytes forms.Text _ there.0 there.1 ∙ ap (option_map (λ t. leaf_layer (text t))) there.2))

-- no room for the bytes, or a failed allocation for bytes that there is room for
pub returns-in_err-copy-in-Some-clause-read : goal.returns-in_err-copy-in-Some-clause-read
returns-in_err-copy-in-Some-clause-read c =
    λ most. let bytes = c.in-Some.text.now in
    let there : (p : ℕ) × (field_place c.args.table.now c.args.field ≡ Some p) × (past text_at c.args.table.now.bytes p ≡ Some bytes) = rw c.in-Some.is at c.in_ok-text.ensures.answer in
    let layered = layer_there c.args.table.now.bytes forms.Text _ there.0 there.1 ∙ ap (option_map (λ t. leaf_layer (text t))) there.2 in
    let failed = err_from_is_err_and c.from_residual-in_err-copy-in-Some.result c.from_residual-in_err-copy-in-Some.ensures.1 in
    rw (failed.1, failed.2) (faulty_so c.in_err-copy-in-Some.field-0.0 _ _ _ _
    (λ short. too_long _ _ (text bytes) _ _ layered (omega (arith, short, c.as_bytes.ensures.len)))
    (λ long. field_grows layered (omega (arith, long, c.as_bytes.ensures.len))) c.in_err-copy-in-Some.ensures.copied)

pub returns-in_err-text-clause-ends : goal.returns-in_err-text-clause-ends
returns-in_err-text-clause-ends c =
    let there = c.in_err-text.ensures.answer in
    let failed = err_from_is_err_and c.from_residual.result c.from_residual.ensures.1 in
    rw (failed.1, failed.2) (λ most. ends_unreadable (layer_there c.args.table.now.bytes forms.Text _ there.0 there.1 ∙ ap (option_map (λ t. leaf_layer (text t))) there.2))

pub returns-in_err-copy-in-Some-clause-ends : goal.returns-in_err-copy-in-Some-clause-ends
returns-in_err-copy-in-Some-clause-ends c =
    let bytes = c.in-Some.text.now in
    let there : (p : ℕ) × (field_place c.args.table.now c.args.field ≡ Some p) × (past text_at c.args.table.now.bytes p ≡ Some bytes) = rw c.in-Some.is at c.in_ok-text.ensures.answer in
    let layered = layer_there c.args.table.now.bytes forms.Text _ there.0 there.1 ∙ ap (option_map (λ t. leaf_layer (text t))) there.2 in
    let failed = err_from_is_err_and c.from_residual-in_err-copy-in-Some.result c.from_residual-in_err-copy-in-Some.ensures.1 in
    rw (failed.1, failed.2) (λ most. ends_copy _ _ (text bytes) (length c.as_bytes.result.now) most (room c.args.self.now) (room c.copied.new.self) c.in_err-copy-in-Some.field-0.0 (ap length c.as_bytes.ensures.value) (λ fits. fits) layered
    c.in_err-copy-in-Some.ensures.copied c.in_err-copy-in-Some.ensures.ends)
