use Rattle.std.proofs.Common.{◌≡◌, ◌≤◌, ◌*◌, ℕ, List, length, map, ap, sym, ◌∙◌, subst, arith, refl}
use Rattle.std.specs.Prelude.{slice_range}
use Rattle.std.specs.List.Sorted.{IsNonDecreasing}
use Rattle.arrow_bits.specs.Offsets.{plain_list}
use Rattle.arrow_types.specs.View.{type_view}
use Rattle.arrow_data.specs.Column.{Column}
use Rattle.arrow_layout.specs.Form.{node_form, offset_bytes}
use Rattle.arrow_layout.specs.ByteRanges.{bytes_of}
use Rattle.arrow_data.specs.Node.{AreRanges, IsFormat, raw_slot}
use Rattle.arrow_data.specs.declared.array.Ranges.TheVariants as ranges
use Rattle.arrow_layout.specs.PlainValue.{binary_value, list_value, struct_value, utf8_value, value_at, values_of}
use Rattle.arrow_layout.specs.Slots.{is_valid_at, items_at, place_of, slots}
use Rattle.arrow_data.proofs.FullSlots.{empty_part, entries_of, fixed_part, ints_part, none_by, none_part, strings_part}
use Rattle.arrow_data.proofs.Shown.{length_slots}
use Rattle.arrow_data.proofs.array.Array.value_bytes.Goals as goal

-- no slots
pub returns-then-start-stop : goal.returns-then-start-stop
returns-then-start-stop c = empty_part _ c.args.self.now.raw c.args.start c.args.stop c.if-start-stop.true

-- nulls
pub returns-in-Nulls : goal.returns-in-Nulls
returns-in-Nulls c =
    let a = c.self.inside in
    let t = type_view a.data_type.value in
    let me = c.args.self.now in
    let r = c.in-Nulls.is in
    let raw = ap (λ (x : Column). x.raw) (sym c.self.view_is) ∙ ap (λ ranges. slots a.len (raw_slot a.body ranges)) r in
    let long : a.len ≡ length me.raw = omega (arith, ap (λ (x : Column). length x.raw) (sym c.self.view_is), length_slots a.len (raw_slot a.body a.ranges)) in
    let inside : c.args.stop ≤ a.len = omega (arith, c.requires.inside, long) in
    let form = ap (λ (x : Column). node_form x.data_type.tag x.encoding) c.self.view_is in
    let ok = subst (AreRanges a.len t a.encoding a.body) r c.self.invariant.1 in
    none_part (node_form me.data_type.tag me.encoding) me a.len c.args.start c.args.stop (raw_slot a.body ranges.Nulls) raw long inside (λ j. refl)

-- truth values have no bytes of their own
pub returns-in-Bools : goal.returns-in-Bools
returns-in-Bools c =
    let a = c.self.inside in
    let t = type_view a.data_type.value in
    let me = c.args.self.now in
    let r = c.in-Bools.is in
    let raw = ap (λ (x : Column). x.raw) (sym c.self.view_is) ∙ ap (λ ranges. slots a.len (raw_slot a.body ranges)) r in
    let long : a.len ≡ length me.raw = omega (arith, ap (λ (x : Column). length x.raw) (sym c.self.view_is), length_slots a.len (raw_slot a.body a.ranges)) in
    let inside : c.args.stop ≤ a.len = omega (arith, c.requires.inside, long) in
    let form = ap (λ (x : Column). node_form x.data_type.tag x.encoding) c.self.view_is in
    let ok = subst (AreRanges a.len t a.encoding a.body) r c.self.invariant.1 in
    let b = c.in-Bools.field-0 in
    none_part (node_form me.data_type.tag me.encoding) me a.len c.args.start c.args.stop (raw_slot a.body (ranges.Bools b)) raw long inside (λ j. none_by (node_form me.data_type.tag me.encoding) (is_valid_at (bytes_of a.body b.validity) j) _ refl)

-- numbers
pub returns-in-Ints : goal.returns-in-Ints
returns-in-Ints c =
    let a = c.self.inside in
    let t = type_view a.data_type.value in
    let me = c.args.self.now in
    let r = c.in-Ints.is in
    let raw = ap (λ (x : Column). x.raw) (sym c.self.view_is) ∙ ap (λ ranges. slots a.len (raw_slot a.body ranges)) r in
    let long : a.len ≡ length me.raw = omega (arith, ap (λ (x : Column). length x.raw) (sym c.self.view_is), length_slots a.len (raw_slot a.body a.ranges)) in
    let inside : c.args.stop ≤ a.len = omega (arith, c.requires.inside, long) in
    let form = ap (λ (x : Column). node_form x.data_type.tag x.encoding) c.self.view_is in
    let ok = subst (AreRanges a.len t a.encoding a.body) r c.self.invariant.1 in
    let n = c.in-Ints.ints in
    let format = subst (λ f. IsFormat f n) form (subst (λ e. IsFormat (node_form t.tag e) n) (sym ok.0) ok.1) in
    c.part.ensures ∙ ap (λ b. slice_range (bytes_of b n.values) (n.width * c.args.start) (n.width * c.args.stop)) c.as_slice-body.ensures
    ∙ ints_part (node_form me.data_type.tag me.encoding) me a.len a.body n c.args.start c.args.stop raw long format ok.2 c.self.invariant.2 c.requires.order inside c.requires.full

-- byte strings
pub returns-in-Binaries : goal.returns-in-Binaries
returns-in-Binaries c =
    let a = c.self.inside in
    let t = type_view a.data_type.value in
    let me = c.args.self.now in
    let r = c.in-Binaries.is in
    let raw = ap (λ (x : Column). x.raw) (sym c.self.view_is) ∙ ap (λ ranges. slots a.len (raw_slot a.body ranges)) r in
    let long : a.len ≡ length me.raw = omega (arith, ap (λ (x : Column). length x.raw) (sym c.self.view_is), length_slots a.len (raw_slot a.body a.ranges)) in
    let inside : c.args.stop ≤ a.len = omega (arith, c.requires.inside, long) in
    let form = ap (λ (x : Column). node_form x.data_type.tag x.encoding) c.self.view_is in
    let ok = subst (AreRanges a.len t a.encoding a.body) r c.self.invariant.1 in
    let s = c.in-Binaries.strings in
    let places = λ (b : List ℕ). slice_range (bytes_of b s.bytes) (place_of s.width (bytes_of b s.offsets) c.args.start) (place_of s.width (bytes_of b s.offsets) c.args.stop) in
    let rises = subst (λ b. IsNonDecreasing (plain_list (offset_bytes s.width) a.len (bytes_of b s.offsets))) c.as_slice-body.ensures c.part-in-Binaries.ensures.rising in
    c.part-in-Binaries.ensures.bytes ∙ ap places c.as_slice-body.ensures
    ∙ strings_part (node_form me.data_type.tag me.encoding) me a.len a.body s c.args.start c.args.stop binary_value (λ bytes. refl) raw long rises c.requires.order inside c.requires.full

-- texts
pub returns-in-Texts : goal.returns-in-Texts
returns-in-Texts c =
    let a = c.self.inside in
    let t = type_view a.data_type.value in
    let me = c.args.self.now in
    let r = c.in-Texts.is in
    let raw = ap (λ (x : Column). x.raw) (sym c.self.view_is) ∙ ap (λ ranges. slots a.len (raw_slot a.body ranges)) r in
    let long : a.len ≡ length me.raw = omega (arith, ap (λ (x : Column). length x.raw) (sym c.self.view_is), length_slots a.len (raw_slot a.body a.ranges)) in
    let inside : c.args.stop ≤ a.len = omega (arith, c.requires.inside, long) in
    let form = ap (λ (x : Column). node_form x.data_type.tag x.encoding) c.self.view_is in
    let ok = subst (AreRanges a.len t a.encoding a.body) r c.self.invariant.1 in
    let s = c.in-Texts.strings in
    let places = λ (b : List ℕ). slice_range (bytes_of b s.bytes) (place_of s.width (bytes_of b s.offsets) c.args.start) (place_of s.width (bytes_of b s.offsets) c.args.stop) in
    let rises = subst (λ b. IsNonDecreasing (plain_list (offset_bytes s.width) a.len (bytes_of b s.offsets))) c.as_slice-body.ensures c.part-in-Texts.ensures.rising in
    c.part-in-Texts.ensures.bytes ∙ ap places c.as_slice-body.ensures
    ∙ strings_part (node_form me.data_type.tag me.encoding) me a.len a.body s c.args.start c.args.stop utf8_value (λ bytes. refl) raw long rises c.requires.order inside c.requires.full

-- byte strings of one width
pub returns-in-FixedBytes : goal.returns-in-FixedBytes
returns-in-FixedBytes c =
    let a = c.self.inside in
    let t = type_view a.data_type.value in
    let me = c.args.self.now in
    let r = c.in-FixedBytes.is in
    let raw = ap (λ (x : Column). x.raw) (sym c.self.view_is) ∙ ap (λ ranges. slots a.len (raw_slot a.body ranges)) r in
    let long : a.len ≡ length me.raw = omega (arith, ap (λ (x : Column). length x.raw) (sym c.self.view_is), length_slots a.len (raw_slot a.body a.ranges)) in
    let inside : c.args.stop ≤ a.len = omega (arith, c.requires.inside, long) in
    let form = ap (λ (x : Column). node_form x.data_type.tag x.encoding) c.self.view_is in
    let ok = subst (AreRanges a.len t a.encoding a.body) r c.self.invariant.1 in
    let f = c.in-FixedBytes.fixed in
    c.part-in-FixedBytes.ensures ∙ ap (λ b. slice_range (bytes_of b f.values) (f.width * c.args.start) (f.width * c.args.stop)) c.as_slice-body.ensures
    ∙ fixed_part (node_form me.data_type.tag me.encoding) me a.len a.body f c.args.start c.args.stop raw long c.requires.order inside c.requires.full

-- lists have none
pub returns-in-Lists : goal.returns-in-Lists
returns-in-Lists c =
    let a = c.self.inside in
    let t = type_view a.data_type.value in
    let me = c.args.self.now in
    let r = c.in-Lists.is in
    let raw = ap (λ (x : Column). x.raw) (sym c.self.view_is) ∙ ap (λ ranges. slots a.len (raw_slot a.body ranges)) r in
    let long : a.len ≡ length me.raw = omega (arith, ap (λ (x : Column). length x.raw) (sym c.self.view_is), length_slots a.len (raw_slot a.body a.ranges)) in
    let inside : c.args.stop ≤ a.len = omega (arith, c.requires.inside, long) in
    let form = ap (λ (x : Column). node_form x.data_type.tag x.encoding) c.self.view_is in
    let ok = subst (AreRanges a.len t a.encoding a.body) r c.self.invariant.1 in
    none_part (node_form me.data_type.tag me.encoding) me a.len c.args.start c.args.stop (raw_slot a.body (ranges.Lists c.in-Lists.form c.in-Lists.validity c.in-Lists.offsets c.in-Lists.child)) raw long inside (λ j. none_by (node_form me.data_type.tag me.encoding) (is_valid_at (bytes_of a.body c.in-Lists.validity) j)
    (list_value (values_of (items_at c.in-Lists.form (bytes_of a.body c.in-Lists.offsets) c.in-Lists.child.value.raw j))) refl)

-- structs have none
pub returns-in-Structs : goal.returns-in-Structs
returns-in-Structs c =
    let a = c.self.inside in
    let t = type_view a.data_type.value in
    let me = c.args.self.now in
    let r = c.in-Structs.is in
    let raw = ap (λ (x : Column). x.raw) (sym c.self.view_is) ∙ ap (λ ranges. slots a.len (raw_slot a.body ranges)) r in
    let long : a.len ≡ length me.raw = omega (arith, ap (λ (x : Column). length x.raw) (sym c.self.view_is), length_slots a.len (raw_slot a.body a.ranges)) in
    let inside : c.args.stop ≤ a.len = omega (arith, c.requires.inside, long) in
    let form = ap (λ (x : Column). node_form x.data_type.tag x.encoding) c.self.view_is in
    let ok = subst (AreRanges a.len t a.encoding a.body) r c.self.invariant.1 in
    none_part (node_form me.data_type.tag me.encoding) me a.len c.args.start c.args.stop (raw_slot a.body (ranges.Structs c.in-Structs.validity c.in-Structs.children)) raw long inside (λ j. none_by (node_form me.data_type.tag me.encoding) (is_valid_at (bytes_of a.body c.in-Structs.validity) j)
    (struct_value (values_of (map (λ values. value_at values j) (map (λ (x : Column). x.raw) c.in-Structs.children.items)))) refl)

-- indices
pub returns-in-Indices : goal.returns-in-Indices
returns-in-Indices c =
    let a = c.self.inside in
    let t = type_view a.data_type.value in
    let me = c.args.self.now in
    let r = c.in-Indices.is in
    let raw = ap (λ (x : Column). x.raw) (sym c.self.view_is) ∙ ap (λ ranges. slots a.len (raw_slot a.body ranges)) r in
    let long : a.len ≡ length me.raw = omega (arith, ap (λ (x : Column). length x.raw) (sym c.self.view_is), length_slots a.len (raw_slot a.body a.ranges)) in
    let inside : c.args.stop ≤ a.len = omega (arith, c.requires.inside, long) in
    let form = ap (λ (x : Column). node_form x.data_type.tag x.encoding) c.self.view_is in
    let ok = subst (AreRanges a.len t a.encoding a.body) r c.self.invariant.1 in
    let n = c.in-Indices.ints in
    let entries = entries_of a.len t a.encoding a.body n c.in-Indices.field-1.value ok in
    let format = subst (λ f. IsFormat f n) form entries.0 in
    c.part-in-Indices.ensures ∙ ap (λ b. slice_range (bytes_of b n.values) (n.width * c.args.start) (n.width * c.args.stop)) c.as_slice-body.ensures
    ∙ ints_part (node_form me.data_type.tag me.encoding) me a.len a.body n c.args.start c.args.stop raw long format entries.1 c.self.invariant.2 c.requires.order inside c.requires.full
