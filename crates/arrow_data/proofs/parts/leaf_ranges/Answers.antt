use Rattle.std.proofs.lemmas.Grind.{common_steps}
use Rattle.std.proofs.Common.{◌≡◌, ◌≤◌, length, map, ap, sym, ◌∙◌, subst, refl, arith}
use Rattle.arrow_types.specs.View.{type_view}
use Rattle.arrow_layout.specs.Form.{buffers_of, form_of}
use Rattle.arrow_layout.specs.ByteRanges.{bytes_of}
use Rattle.arrow_data.specs.Node.{binary_at, utf8_at}
use Rattle.arrow_data.specs.Parts.{value_slot}
use Rattle.arrow_layout.specs.Slots.{binary_slot, utf8_slot}
use Rattle.arrow_layout.specs.declared.form.Form.TheVariants as forms
use Rattle.arrow_data.proofs.NodeParts.{leaf_same, strings_same}
use Rattle.arrow_data.proofs.parts.leaf_ranges.Goals as goal

pub returns-in-Bytes-clause-same : goal.returns-in-Bytes-clause-same
returns-in-Bytes-clause-same c = λ children typed.
    let t = type_view c.args.data_type.now in
    let w = c.in-Bytes.width in
    let form : form_of t.tag ≡ forms.Bytes w = sym c.requires.form ∙ c.in-Bytes.is in
    let three : 3 ≤ length c.args.node.ranges.now = subst (λ x. buffers_of x ≤ length c.args.node.ranges.now) form c.requires.count in
    let s = c.strings.ensures in
    leaf_same t (forms.Bytes w) c.args.node.len (map (bytes_of c.args.node.body.now) c.args.node.ranges.now) children (binary_at c.args.node.body.now c.strings.result) form c.requires.bare typed refl
    (λ values. strings_same c.args.node.body.now c.args.node.ranges.now c.strings.result three s.validity s.offsets s.bytes (binary_slot c.strings.result.width) ∙ ap (λ x. value_slot (forms.Bytes x) (map (bytes_of c.args.node.body.now) c.args.node.ranges.now) values) s.width)

pub returns-in-Texts-clause-same : goal.returns-in-Texts-clause-same
returns-in-Texts-clause-same c = λ children typed.
    let t = type_view c.args.data_type.now in
    let w = c.in-Texts.width in
    let form : form_of t.tag ≡ forms.Texts w = sym c.requires.form ∙ c.in-Texts.is in
    let three : 3 ≤ length c.args.node.ranges.now = subst (λ x. buffers_of x ≤ length c.args.node.ranges.now) form c.requires.count in
    let s = c.strings-in-Texts.ensures in
    leaf_same t (forms.Texts w) c.args.node.len (map (bytes_of c.args.node.body.now) c.args.node.ranges.now) children (utf8_at c.args.node.body.now c.strings-in-Texts.result) form c.requires.bare typed refl
    (λ values. strings_same c.args.node.body.now c.args.node.ranges.now c.strings-in-Texts.result three s.validity s.offsets s.bytes (utf8_slot c.strings-in-Texts.result.width) ∙ ap (λ x. value_slot (forms.Texts x) (map (bytes_of c.args.node.body.now) c.args.node.ranges.now) values) s.width)

pub bools-requires : goal.bools-requires
bools-requires c = grind (arith, common_steps)

pub numbers-requires : goal.numbers-requires
numbers-requires c = grind (arith, common_steps)

pub strings-requires : goal.strings-requires
strings-requires c = grind (arith, common_steps)

pub strings-requires-in-Texts : goal.strings-requires-in-Texts
strings-requires-in-Texts c = grind (arith, common_steps)

pub fixed-requires : goal.fixed-requires
fixed-requires c = grind (arith, common_steps)

pub returns-in-Nulls-clause-lies : goal.returns-in-Nulls-clause-lies
returns-in-Nulls-clause-lies c = grind (arith, common_steps)

pub returns-in-Nulls-clause-same : goal.returns-in-Nulls-clause-same
returns-in-Nulls-clause-same c = grind (arith, common_steps)

pub returns-in-Bits-clause-lies : goal.returns-in-Bits-clause-lies
returns-in-Bits-clause-lies c = grind (arith, common_steps)

pub returns-in-Numbers-clause-lies : goal.returns-in-Numbers-clause-lies
returns-in-Numbers-clause-lies c = grind (arith, common_steps)

pub returns-in-Bytes-clause-lies : goal.returns-in-Bytes-clause-lies
returns-in-Bytes-clause-lies c = grind (arith, common_steps)

pub returns-in-Texts-clause-lies : goal.returns-in-Texts-clause-lies
returns-in-Texts-clause-lies c = grind (arith, common_steps)

pub returns-in-FixedBytes-clause-lies : goal.returns-in-FixedBytes-clause-lies
returns-in-FixedBytes-clause-lies c = grind (arith, common_steps)
