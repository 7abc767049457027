use Rattle.std.proofs.Common.{◌∙◌, ap, subst, sym}
use Rattle.arrow_layout.specs.ByteRanges.{bytes_of}
use Rattle.arrow_data.specs.View.{HoldIndices, HoldLists, HoldStructs}
use Rattle.arrow_layout.specs.declared.byte_range.ByteRange.{ByteRange}
use Rattle.arrow_data.proofs.Viewing.{binaries_held, bools_held, fixed_held, indices_held, ints_held, lists_held, nulls_held, structs_held, texts_held}
use Rattle.arrow_data.proofs.array.Array.buffers.Goals as goal

pub returns-in-Nulls : goal.returns-in-Nulls
returns-in-Nulls c = nulls_held c.self.inside c.args.self.now c.self.view_is c.self.invariant c.in-Nulls.is

pub returns-in-Bools : goal.returns-in-Bools
returns-in-Bools c =
    let body = λ (r : ByteRange). ap (λ bs. bytes_of bs r) c.as_slice-body.ensures in
    bools_held c.self.inside c.args.self.now c.in-Bools.bools c.bytes_in.result.now c.bytes_in-in-Bools.result.now c.self.view_is c.self.invariant c.in-Bools.is (c.bytes_in.ensures ∙ body c.in-Bools.bools.validity) (c.bytes_in-in-Bools.ensures ∙ body c.in-Bools.bools.values)

pub returns-in-Ints : goal.returns-in-Ints
returns-in-Ints c =
    let body = λ (r : ByteRange). ap (λ bs. bytes_of bs r) c.as_slice-body.ensures in
    let n = c.in-Ints.ints in
    let of = c.slices.ensures in
    ints_held c.self.inside c.args.self.now n c.slices.result.width c.slices.result.signed c.slices.result.validity.now c.slices.result.values.now c.self.view_is c.self.invariant c.in-Ints.is of.width of.signed (of.validity ∙ body n.validity) (of.values ∙ body n.values)

pub returns-in-Binaries : goal.returns-in-Binaries
returns-in-Binaries c =
    let body = λ (r : ByteRange). ap (λ bs. bytes_of bs r) c.as_slice-body.ensures in
    let s = c.in-Binaries.strings in
    let x = c.slices-in-Binaries.result in
    let of = c.slices-in-Binaries.ensures in
    binaries_held c.self.inside c.args.self.now s x.width x.validity.now x.offsets.now x.bytes.now c.self.view_is c.self.invariant c.in-Binaries.is of.width (of.validity ∙ body s.validity) (of.offsets ∙ body s.offsets) (of.bytes ∙ body s.bytes)

pub returns-in-Texts : goal.returns-in-Texts
returns-in-Texts c =
    let body = λ (r : ByteRange). ap (λ bs. bytes_of bs r) c.as_slice-body.ensures in
    let s = c.in-Texts.strings in
    let x = c.slices-in-Texts.result in
    let of = c.slices-in-Texts.ensures in
    texts_held c.self.inside c.args.self.now s x.width x.validity.now x.offsets.now x.bytes.now c.self.view_is c.self.invariant c.in-Texts.is of.width (of.validity ∙ body s.validity) (of.offsets ∙ body s.offsets) (of.bytes ∙ body s.bytes)

pub returns-in-FixedBytes : goal.returns-in-FixedBytes
returns-in-FixedBytes c =
    let body = λ (r : ByteRange). ap (λ bs. bytes_of bs r) c.as_slice-body.ensures in
    let b = c.in-FixedBytes.fixed in
    fixed_held c.self.inside c.args.self.now b c.bytes_in-in-FixedBytes.result.now c.bytes_in-in-FixedBytes-2.result.now c.self.view_is c.self.invariant c.in-FixedBytes.is (c.bytes_in-in-FixedBytes.ensures ∙ body b.validity) (c.bytes_in-in-FixedBytes-2.ensures ∙ body b.values)

pub returns-in-Indices : goal.returns-in-Indices
returns-in-Indices c =
    let body = λ (r : ByteRange). ap (λ bs. bytes_of bs r) c.as_slice-body.ensures in
    let n = c.in-Indices.ints in
    let x = c.slices-in-Indices.result in
    let of = c.slices-in-Indices.ensures in
    let held = indices_held c.self.inside c.args.self.now n c.in-Indices.dictionary x.width x.signed x.validity.now x.values.now c.self.view_is c.self.invariant c.in-Indices.is of.width of.signed (of.validity ∙ body n.validity) (of.values ∙ body n.values) in
    subst (HoldIndices c.args.self.now x.width x.signed x.validity.now x.values.now) (sym c.deref-in-Indices.ensures) held

pub returns-in-Lists : goal.returns-in-Lists
returns-in-Lists c =
    let body = λ (r : ByteRange). ap (λ bs. bytes_of bs r) c.as_slice-body.ensures in
    let v = c.in-Lists.validity in
    let o = c.in-Lists.offsets in
    let held = lists_held c.self.inside c.args.self.now c.in-Lists.form v o c.in-Lists.child c.bytes_in-in-Lists.result.now c.bytes_in-in-Lists-2.result.now c.self.view_is c.self.invariant c.in-Lists.is (c.bytes_in-in-Lists.ensures ∙ body v) (c.bytes_in-in-Lists-2.ensures ∙ body o) in
    subst (HoldLists c.args.self.now c.in-Lists.form c.bytes_in-in-Lists.result.now c.bytes_in-in-Lists-2.result.now) (sym c.deref.ensures) held

pub returns-in-Structs : goal.returns-in-Structs
returns-in-Structs c =
    let body = λ (r : ByteRange). ap (λ bs. bytes_of bs r) c.as_slice-body.ensures in
    let v = c.in-Structs.validity in
    let held = structs_held c.self.inside c.args.self.now v c.in-Structs.children c.bytes_in-in-Structs.result.now c.self.view_is c.self.invariant c.in-Structs.is (c.bytes_in-in-Structs.ensures ∙ body v) in
    subst (HoldStructs c.args.self.now c.bytes_in-in-Structs.result.now) (sym c.deref-in-Structs.ensures.value) held
