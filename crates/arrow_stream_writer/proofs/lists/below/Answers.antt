use Rattle.std.proofs.Common.{◌≡◌, sym, ap, ◌∙◌, subst, inl, inr}
use Rattle.arrow_types.specs.Field.{FieldTree, none, TypeShape}
use Rattle.arrow_types.specs.View.{type_view}
use Rattle.arrow_layout.specs.Form.{HasFieldsOf}
use Rattle.arrow_layout.specs.declared.form.Form.{Form}
use Rattle.arrow_layout.specs.declared.form.Form.TheVariants as forms
use Rattle.arrow_stream_writer.proofs.Gathering.{leaf_lists}
use Rattle.arrow_stream_writer.proofs.lists.below.Goals as goal

-- there is no field below a type of a form that has none
no_field : (form leaf : Form) (fields : FieldTree) → HasFieldsOf form fields → (HasFieldsOf leaf fields → fields ≡ none) → form ≡ leaf → fields ≡ none
no_field form leaf fields has none_of is = none_of (subst (λ f. HasFieldsOf f fields) is has)

-- slots hold neither lists nor structs
pub returns-in-Nulls : goal.returns-in-Nulls
returns-in-Nulls c plain =
    let fields = (type_view c.data_type.result.now).children in
    let has = c.form_of.ensures.below in
    let leaf : fields ≡ none = elim (c.in-Nulls.is) [
      | inl e ↦ no_field c.form_of.result forms.Nulls fields has (λ h. h) e
      | inr a ↦ elim (a) [
        | inl e ↦ no_field c.form_of.result forms.Bits fields has (λ h. h) e
        | inr b ↦ elim (b) [
          | inl e ↦ no_field c.form_of.result (forms.Numbers e.0) fields has (λ h. h) e.1
          | inr d ↦ elim (d) [
            | inl e ↦ no_field c.form_of.result (forms.Bytes e.0) fields has (λ h. h) e.1
            | inr f ↦ elim (f) [
              | inl e ↦ no_field c.form_of.result (forms.Texts e.0) fields has (λ h. h) e.1
              | inr e ↦ no_field c.form_of.result (forms.FixedBytes e.0) fields has (λ h. h) e.1
            ]
          ]
        ]
      ]
    ] in
    leaf_lists c.args.column.now c.len.ensures.known plain (ap (λ (t : TypeShape). t.children) (sym c.data_type.ensures) ∙ leaf)
