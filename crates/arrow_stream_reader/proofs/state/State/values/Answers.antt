use Rattle.std.proofs.Common.{rules, w64}
use Rattle.std.proofs.lemmas.Int.{to_z-of_z}
use Rattle.std.proofs.Common.{◌≡◌, [], ◌∷◌, Some, false, length, sym, ap, ◌∙◌, subst, arith, Ok}
use Rattle.std.specs.Prelude.{option_map}
use Rattle.arrow_types.specs.Field.{TypeShape}
use Rattle.arrow_types.specs.Schema.{dictionary_fields, has_encoding}
use Rattle.arrow_types.specs.View.{fields_view}
use Rattle.arrow_body_reader.specs.Sound.{AreFit}
use Rattle.arrow_dict.specs.ValueTypes.{value_field, value_type_of}
use Rattle.arrow_meta_reader.specs.Means.{batch_view}
use Rattle.arrow_stream_reader.specs.Batch.{Loads, value_fields}
use Rattle.arrow_stream_reader.specs.State.{fields_in}
use Rattle.arrow_stream_reader.specs.Views.{plain}
use Rattle.arrow_stream_reader.proofs.Fitness.{found_field, found_fit, one_value_field}
use Rattle.arrow_stream_reader.proofs.States.{one_column, values_read}
use Rattle.arrow_stream_reader.proofs.state.State.values.Goals as goal

pub load_columns-requires-clause-fit : goal.load_columns-requires-clause-fit
load_columns-requires-clause-fit c =
    let s = plain c.args.self.now in
    let id = to_z-of_z w64 c.args.dictionary_batch.now.id (search rules) in
    let o = value_type_of (dictionary_fields (fields_in s.schema)) in
    let found = found_field (o c.args.dictionary_batch.now.id) c.in_ok-field.field.now (rw c.in_ok-field.ensures.ok_part at c.value_field.ensures.field ∙ ap (λ i. option_map value_field (o i)) id) in
    let flat : (t : TypeShape) → o c.args.dictionary_batch.now.id ≡ Some t → has_encoding t.children ≡ false = λ t e. c.value_field.ensures.flat t (ap o id ∙ e) in
    subst (AreFit []) (sym c.fields.ensures) (found_fit (o c.args.dictionary_batch.now.id) c.in_ok-field.field.now found flat)

pub swap_remove-requires : goal.swap_remove-requires
swap_remove-requires c =
    let s = plain c.args.self.now in
    let id = to_z-of_z w64 c.args.dictionary_batch.now.id (search rules) in
    let o = value_type_of (dictionary_fields (fields_in s.schema)) in
    let found = found_field (o c.args.dictionary_batch.now.id) c.in_ok-field.field.now (rw c.in_ok-field.ensures.ok_part at c.value_field.ensures.field ∙ ap (λ i. option_map value_field (o i)) id) in
    let fields : fields_view c.fields.result.now ≡ value_fields s.schema c.args.dictionary_batch.now.id = c.fields.ensures ∙ one_value_field s.schema c.args.dictionary_batch.now.id c.in_ok-field.field.now found in
    let one = one_column s (batch_view c.args.dictionary_batch.now.record_batch.now) c.args.body.now c.args.dictionary_batch.now.id found.type c.in_ok-arrays.arrays.items found.named
    (subst (λ x. Loads c.args.body.now [] x (batch_view c.args.dictionary_batch.now.record_batch.now) (Ok c.in_ok-arrays.arrays.items)) fields c.in_ok-arrays.ensures.held) in
    let count : length c.in_ok-arrays.arrays.items ≡ length (one.column ∷ []) = ap length one.alone in
    omega (arith, count)

pub returns : goal.returns
returns c =
    let s = plain c.args.self.now in
    let record_batch = batch_view c.args.dictionary_batch.now.record_batch.now in
    let body = c.args.body.now in
    let id = to_z-of_z w64 c.args.dictionary_batch.now.id (search rules) in
    let o = value_type_of (dictionary_fields (fields_in s.schema)) in
    let found = found_field (o c.args.dictionary_batch.now.id) c.in_ok-field.field.now (rw c.in_ok-field.ensures.ok_part at c.value_field.ensures.field ∙ ap (λ i. option_map value_field (o i)) id) in
    let flat : (t : TypeShape) → o c.args.dictionary_batch.now.id ≡ Some t → has_encoding t.children ≡ false = λ t e. c.value_field.ensures.flat t (ap o id ∙ e) in
    let fields : fields_view c.fields.result.now ≡ value_fields s.schema c.args.dictionary_batch.now.id = c.fields.ensures ∙ one_value_field s.schema c.args.dictionary_batch.now.id c.in_ok-field.field.now found in
    record {
      values = values_read s record_batch body c.args.dictionary_batch.now.id found.type c.in_ok-arrays.arrays.items c.swap_remove.result found.named (flat found.type found.named)
          (subst (λ x. Loads body [] x record_batch (Ok c.in_ok-arrays.arrays.items)) fields c.in_ok-arrays.ensures.held) c.swap_remove.ensures.value;
    }
