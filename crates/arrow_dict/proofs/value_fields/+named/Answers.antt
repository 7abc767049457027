use Rattle.std.proofs.Common.{◌+◌, ◌++◌, drop, ap, subst, arith}
use Rattle.arrow_types.specs.Field.{count}
use Rattle.arrow_types.specs.Schema.{dictionary_fields, dictionary_of}
use Rattle.arrow_types.specs.View.{field_view, fields_view}
use Rattle.arrow_dict.specs.ValueTypes.{NameSame}
use Rattle.arrow_types.proofs.Fields.{fewer_below, fields_from}
use Rattle.arrow_dict.proofs.Naming.{same_step}
use Rattle.arrow_dict.proofs.value_fields.+named.Goals as goal

-- there are fewer fields below a field
pub add_fields-requires : goal.add_fields-requires
add_fields-requires t c =
    let fewer = fewer_below c.args.fields.now c.loop-field.field-index c.field-item.result c.loop-field-test.true c.field-item.is in
    (omega (arith, c.decreases, fewer, ap count c.children.ensures.fields), tt)

-- one field is done, with all fields below it
pub loop-field-preserved : goal.loop-field-preserved
loop-field-preserved t c =
    let f = c.field-item.result in
    let own = dictionary_of (field_view f).head (field_view f).children in
    let rest = dictionary_fields (fields_view (drop (c.loop-field.field-index + 1) c.args.fields.now)) in
    let all = dictionary_fields (fields_view c.args.fields.now) in
    let step = fields_from c.args.fields.now c.loop-field.field-index f c.loop-field-test.true c.field-item.is in
    let below : NameSame c.add_fields.new.found (c.add_own.new.found ++ dictionary_fields (field_view f).children) =
    rw c.children.ensures.fields at c.in_ok-add_fields.ensures in
    let known : NameSame (c.loop-field.found ++ (own ++ dictionary_fields (field_view f).children ++ rest)) (c.args.found.now ++ all) =
    subst (λ fields. NameSame (c.loop-field.found ++ dictionary_fields fields) (c.args.found.now ++ all)) step c.loop-field.invariant in
    same_step c.args.found.now c.loop-field.found own (dictionary_fields (field_view f).children) rest all c.add_own.new.found c.add_fields.new.found
    c.in_ok-add_own.ensures below known
