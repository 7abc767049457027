use Rattle.std.proofs.Common.{rules, ◌<◌, Some, length, sym, ap, ◌∙◌, arith}
use Rattle.arrow_types.proofs.Fields.{width-fields_view}
use Rattle.arrow_types.specs.Field.{width}
use Rattle.arrow_data.specs.Column.{type_of_field}
use Rattle.arrow_body_writer.proofs.Children.{field_typed, same_encoding, same_type}
use Rattle.arrow_body_writer.proofs.source.child_field.Goals as goal

-- there is a field at the index
pub bounds-children-k : goal.bounds-children-k
bounds-children-k c = omega (arith, c.requires, ap width c.children.ensures.fields, width-fields_view c.children.result.now)

-- it is the field of that type and that encoding
pub returns : goal.returns
returns c =
    let fs = c.children.result.now in
    let f = c.index-children-k.result in
    let inside : c.args.k < length fs = omega (arith, c.requires, ap width c.children.ensures.fields, width-fields_view fs) in
    ap (λ fields. type_of_field fields c.args.k) (sym c.children.ensures.fields) ∙ field_typed fs c.args.k f inside c.index-children-k.is
    ∙ (λ i. Some (sym (same_type f) i, sym (same_encoding f) i))

pub offset_bounds-children-k : goal.offset_bounds-children-k
offset_bounds-children-k c =
    let inside : c.args.k < length c.children.result.now = omega (arith, c.requires, ap width c.children.ensures.fields, width-fields_view c.children.result.now) in
    search rules
