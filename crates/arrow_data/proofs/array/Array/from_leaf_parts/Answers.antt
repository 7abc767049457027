use Rattle.std.proofs.Common.{rules, ◌≡◌, [], ap, sym, ◌∙◌, subst, map, None}
use Rattle.std.proofs.lemmas.Result.{IfOk-weaker}
use Rattle.arrow_types.specs.Field.{TypeShape, none}
use Rattle.arrow_types.specs.View.{type_view}
use Rattle.arrow_data.specs.Column.{AreOf}
use Rattle.arrow_layout.specs.Form.{HasFieldsOf, form_of}
use Rattle.arrow_layout.specs.ByteRanges.{bytes_of}
use Rattle.arrow_data.specs.Node.{column_by}
use Rattle.arrow_data.specs.Parts.{node_column}
use Rattle.arrow_data.proofs.NodeParts.{leaf_bare}
use Rattle.arrow_data.proofs.array.Array.from_leaf_parts.Goals as goal

-- no fields are below the type, which is a leaf's
pub leaf_ranges-ranges-requires-clause-bare : goal.leaf_ranges-ranges-requires-clause-bare
leaf_ranges-ranges-requires-clause-bare c =
    let u = type_view c.deref-data_type.result.now in
    let formed : form_of u.tag ≡ c.args.form = ap (λ (x : TypeShape). form_of x.tag) (ap type_view c.deref-data_type.ensures ∙ c.data_type-shared.ensures) ∙ sym c.requires.form in
    leaf_bare c.args.form u.children c.requires.leaf (subst (λ f. HasFieldsOf f u.children) formed c.has_own_fields.ensures)

-- the array has the type that is shared
pub returns : goal.returns
returns c =
    let t = c.args.shared.now.data_type in
    let own = type_view c.data_type-shared.result.now.value in
    let u = type_view c.deref-data_type.result.now in
    let shape : u ≡ t = ap type_view c.deref-data_type.ensures ∙ c.data_type-shared.ensures in
    let b = map (bytes_of c.args.node.body.now) c.args.node.ranges.now in
    let r = c.leaf_ranges-ranges.result in
    let bare : u.children ≡ none = search rules in
    let same = ap (λ x. column_by x None c.args.node.len c.args.node.body.now r) (c.data_type-shared.ensures ∙ sym shape) ∙ c.leaf_ranges-ranges.ensures.same [] (subst (λ f. AreOf f []) (sym bare) tt)
    ∙ ap (λ x. node_column x None c.args.node.len b [] []) shape ∙ ap (λ e. node_column t e c.args.node.len b [] []) (sym c.requires.own) in
    IfOk-weaker c.of_ranges.result (λ a. a ≡ column_by own None c.args.node.len c.args.node.body.now r) (λ a. a ≡ node_column t c.args.shared.now.encoding c.args.node.len b [] []) (λ a e. e ∙ same) c.of_ranges.ensures
