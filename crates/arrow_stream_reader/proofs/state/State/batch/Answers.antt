use Rattle.std.proofs.Common.{◌≡◌, Some, sym, ap, ◌∙◌, subst, Ok}
use Rattle.std.proofs.lemmas.Result.{err_from_is_err_and}
use Rattle.arrow_types.specs.Notes.{SchemaShape}
use Rattle.arrow_types.specs.Schema.{IsSchema}
use Rattle.arrow_types.specs.View.{fields_view}
use Rattle.arrow_data.specs.Batch.{HaveRows}
use Rattle.arrow_data.specs.Column.{AreOf}
use Rattle.arrow_body_reader.specs.Sound.{AreFit}
use Rattle.arrow_meta_reader.specs.Means.{batch_view}
use Rattle.arrow_stream_reader.specs.Batch.{Loads}
use Rattle.arrow_stream_reader.specs.State.{fields_in, schema_in}
use Rattle.arrow_stream_reader.specs.Views.{HasNoColumns, plain}
use Rattle.arrow_stream_reader.proofs.Fitness.{state_fit}
use Rattle.arrow_stream_reader.proofs.States.{batch_applicable, batch_read, batch_refused, held_fits}
use Rattle.arrow_stream_reader.proofs.state.State.batch.Goals as goal

pub load_columns-requires-clause-fit : goal.load_columns-requires-clause-fit
load_columns-requires-clause-fit c =
    let s = plain c.args.self.now in
    let there : s.schema ≡ Some c.in_ok-schema.schema.now = sym (rw c.in_ok-schema.ensures.ok_part at c.as_ref.ensures.value) in
    let held = ap (λ (x : SchemaShape). x.fields) (c.deref.ensures ∙ c.shared-schema.ensures.same) ∙ sym (ap fields_in there) in
    let known = subst IsSchema held c.fields.ensures.limits in
    let same : fields_in s.schema ≡ fields_view c.fields.result.now = sym (c.fields.ensures.same ∙ held) in
    subst (λ x. AreFit x (fields_view c.fields.result.now)) (sym c.entries-dictionaries.ensures.all)
    (subst (λ x. AreFit s.dictionaries x) same (state_fit s c.requires.fit known))

pub returns-in_err-arrays : goal.returns-in_err-arrays
returns-in_err-arrays c =
    let s = plain c.args.self.now in
    let there : s.schema ≡ Some c.in_ok-schema.schema.now = sym (rw c.in_ok-schema.ensures.ok_part at c.as_ref.ensures.value) in
    let record_batch = batch_view c.args.record_batch.now in
    let body = c.args.body.now in
    let same : fields_view c.fields.result.now ≡ fields_in s.schema = c.fields.ensures.same ∙ ap (λ (x : SchemaShape). x.fields) (c.deref.ensures ∙ c.shared-schema.ensures.same) ∙ sym (ap fields_in there) in
    let failed = err_from_is_err_and c.from_residual-in_err-arrays.result c.from_residual-in_err-arrays.ensures.1 in
    rw (failed.1, failed.2) (record {
      gives = batch_refused s record_batch body c.in_err-arrays.field-0.0
          (subst (λ x. HasNoColumns body x (fields_in s.schema) record_batch c.in_err-arrays.field-0.0) c.entries-dictionaries.ensures.all
          (subst (λ x. HasNoColumns body c.entries-dictionaries.result.now x record_batch c.in_err-arrays.field-0.0) same c.in_err-arrays.ensures.held));
    })

pub returns : goal.returns
returns c =
    let s = plain c.args.self.now in
    let there : s.schema ≡ Some c.in_ok-schema.schema.now = sym (rw c.in_ok-schema.ensures.ok_part at c.as_ref.ensures.value) in
    let record_batch = batch_view c.args.record_batch.now in
    let body = c.args.body.now in
    let cs = c.in_ok-arrays.arrays.items in
    let held = ap (λ (x : SchemaShape). x.fields) c.shared-schema.ensures.same ∙ sym (ap fields_in there) in
    let same : fields_view c.fields.result.now ≡ fields_in s.schema = c.fields.ensures.same ∙ ap (λ (x : SchemaShape). x.fields) c.deref.ensures ∙ held in
    record {
      gives = batch_read s record_batch body cs c.new_unchecked.result
          (subst (λ x. Loads body x (fields_in s.schema) record_batch (Ok cs)) c.entries-dictionaries.ensures.all
          (subst (λ x. Loads body c.entries-dictionaries.result.now x record_batch (Ok cs)) same c.in_ok-arrays.ensures.held))
          (c.new_unchecked.ensures
          ∙ ap (λ x. record { schema = x; columns = cs; rows = c.row_count.result }) (c.in_ok-schema-2.ensures.cases ∙ c.shared-schema.ensures.same ∙ sym (ap schema_in there))
          ∙ ap (λ n. record { schema = schema_in s.schema; columns = cs; rows = n }) c.row_count.ensures.count);
    }

pub returns-in_err-schema-2 : goal.returns-in_err-schema-2
returns-in_err-schema-2 c =
    let s = plain c.args.self.now in
    let there : s.schema ≡ Some c.in_ok-schema.schema.now = sym (rw c.in_ok-schema.ensures.ok_part at c.as_ref.ensures.value) in
    let record_batch = batch_view c.args.record_batch.now in
    let body = c.args.body.now in
    let cs = c.in_ok-arrays.arrays.items in
    let held = ap (λ (x : SchemaShape). x.fields) c.shared-schema.ensures.same ∙ sym (ap fields_in there) in
    let same : fields_view c.fields.result.now ≡ fields_in s.schema = c.fields.ensures.same ∙ ap (λ (x : SchemaShape). x.fields) c.deref.ensures ∙ held in
    let holds : Loads body s.dictionaries (fields_in s.schema) record_batch (Ok cs) =
    subst (λ x. Loads body x (fields_in s.schema) record_batch (Ok cs)) c.entries-dictionaries.ensures.all
    (subst (λ x. Loads body c.entries-dictionaries.result.now x record_batch (Ok cs)) same c.in_ok-arrays.ensures.held) in
    let failed = err_from_is_err_and c.from_residual-in_err-schema-2.result c.from_residual-in_err-schema-2.ensures.1 in
    rw (failed.1, failed.2) (record { gives = batch_applicable s record_batch body cs holds })

pub new_unchecked-requires : goal.new_unchecked-requires
new_unchecked-requires c =
    let s = plain c.args.self.now in
    let there : s.schema ≡ Some c.in_ok-schema.schema.now = sym (rw c.in_ok-schema.ensures.ok_part at c.as_ref.ensures.value) in
    let record_batch = batch_view c.args.record_batch.now in
    let body = c.args.body.now in
    let cs = c.in_ok-arrays.arrays.items in
    let held = ap (λ (x : SchemaShape). x.fields) c.shared-schema.ensures.same ∙ sym (ap fields_in there) in
    let same : fields_view c.fields.result.now ≡ fields_in s.schema = c.fields.ensures.same ∙ ap (λ (x : SchemaShape). x.fields) c.deref.ensures ∙ held in
    let holds : Loads body s.dictionaries (fields_in s.schema) record_batch (Ok cs) =
    subst (λ x. Loads body x (fields_in s.schema) record_batch (Ok cs)) c.entries-dictionaries.ensures.all
    (subst (λ x. Loads body c.entries-dictionaries.result.now x record_batch (Ok cs)) same c.in_ok-arrays.ensures.held) in
    let fits = held_fits holds in
    record { typed = subst (λ f. AreOf f cs) (sym (ap (λ (x : SchemaShape). x.fields) c.in_ok-schema-2.ensures.cases ∙ held)) fits.0; long = subst (λ n. HaveRows n cs) (sym c.row_count.ensures.count) fits.1 }
