use Rattle.std.proofs.Common.{◌≡◌, ◌≤◌, ap, sym, ◌∙◌, subst, length, map, Some, None}
use Rattle.std.proofs.lemmas.Result.{IfOk-weaker}
use Rattle.arrow_types.specs.View.{type_view}
use Rattle.arrow_layout.specs.Layout.{buffer_count}
use Rattle.arrow_layout.specs.ByteRanges.{bytes_of}
use Rattle.arrow_data.specs.Node.{IsFormat, column_by}
use Rattle.arrow_layout.specs.declared.form.Form.TheVariants as forms
use Rattle.arrow_data.specs.Parts.{node_column, values_in}
use Rattle.arrow_data.specs.declared.array.Ranges.TheVariants.{Indices}
use Rattle.arrow_data.proofs.NodeParts.{index_same}
use Rattle.arrow_data.proofs.array.Array.from_shared_parts.Goals as goal

-- the array has the type and the encoding that are shared
pub returns-in_ok-ranges-in-None : goal.returns-in_ok-ranges-in-None
returns-in_ok-ranges-in-None c =
    let t = c.args.shared.now.data_type in
    let own = type_view c.data_type-shared.result.now.value in
    let u = type_view c.deref-data_type.result.now in
    let shape : u ≡ t = ap type_view c.deref-data_type.ensures ∙ c.data_type-shared.ensures in
    let plain : c.args.shared.now.encoding ≡ None = sym c.encoding-encoding.ensures ∙ c.in-None.is in
    let b = map (bytes_of c.args.node.body.now) c.args.node.ranges.now in
    let r = c.in_ok-ranges-in-None.ranges in
    let same = ap (λ x. column_by x None c.args.node.len c.args.node.body.now r) (c.data_type-shared.ensures ∙ sym shape) ∙ c.in_ok-ranges-in-None.ensures.same
    ∙ ap (λ x. node_column x None c.args.node.len b c.args.below.children.items (values_in c.args.below.dictionary)) shape
    ∙ ap (λ e. node_column t e c.args.node.len b c.args.below.children.items (values_in c.args.below.dictionary)) (sym plain) in
    IfOk-weaker c.of_ranges-in-None.result (λ a. a ≡ column_by own None c.args.node.len c.args.node.body.now r)
    (λ a. a ≡ node_column t c.args.shared.now.encoding c.args.node.len b c.args.below.children.items (values_in c.args.below.dictionary)) (λ a e. e ∙ same) c.of_ranges-in-None.ensures

pub returns-in_ok-dictionary-in-Some : goal.returns-in_ok-dictionary-in-Some
returns-in_ok-dictionary-in-Some c =
    let t = c.args.shared.now.data_type in
    let own = type_view c.data_type-shared.result.now.value in
    let shape : type_view c.deref-data_type.result.now ≡ own = ap type_view c.deref-data_type.ensures in
    let encoded : c.args.shared.now.encoding ≡ Some c.in-Some.encoding = sym c.encoding-encoding.ensures ∙ c.in-Some.is in
    let b = map (bytes_of c.args.node.body.now) c.args.node.ranges.now in
    let two : 2 ≤ length c.args.node.ranges.now = subst (λ e. buffer_count t.tag e ≤ length c.args.node.ranges.now) encoded c.requires.count in
    let d = c.in_ok-dictionary-in-Some.dictionary in
    let whole = c.in_ok-dictionary-in-Some.ensures.ok ∙ c.in_ok-or_empty-in-Some.ensures.same ∙ ap (λ x. record { data_type = x; values = values_in c.args.below.dictionary }) shape in
    let format = subst (λ form. IsFormat (forms.Numbers form) c.numbers-indices.result) c.of_index.ensures c.numbers-indices.ensures.format in
    let indexed = index_same own c.in-Some.encoding c.args.node.len c.args.node.body.now c.args.node.ranges.now c.args.below.children.items c.numbers-indices.result d (values_in c.args.below.dictionary)
    format c.numbers-indices.ensures.validity c.numbers-indices.ensures.values whole two in
    let same = indexed ∙ ap (λ x. node_column x (Some c.in-Some.encoding) c.args.node.len b c.args.below.children.items (values_in c.args.below.dictionary)) c.data_type-shared.ensures
    ∙ ap (λ e. node_column t e c.args.node.len b c.args.below.children.items (values_in c.args.below.dictionary)) (sym encoded) in
    IfOk-weaker c.of_ranges.result (λ a. a ≡ column_by own (Some c.in-Some.encoding) c.args.node.len c.args.node.body.now (Indices c.numbers-indices.result d))
    (λ a. a ≡ node_column t c.args.shared.now.encoding c.args.node.len b c.args.below.children.items (values_in c.args.below.dictionary)) (λ a e. e ∙ same) c.of_ranges.ensures
