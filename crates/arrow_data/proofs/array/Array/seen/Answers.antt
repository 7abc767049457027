use Rattle.std.proofs.Common.{◌≡◌, ◌+◌, ◌<◌, ◌≤◌, length, ap, sym, ◌∙◌, subst, arith, rules, map, true}
use Rattle.arrow_types.specs.View.{type_view}
use Rattle.arrow_data.specs.Column.{Column}
use Rattle.arrow_layout.specs.ByteRanges.{bytes_of}
use Rattle.arrow_data.specs.Node.{AreRanges, column_by, raw_slot, resolved_slot}
use Rattle.arrow_layout.specs.Slots.{slots, item_place, list_slot, struct_slot, is_valid_at}
use Rattle.arrow_data.specs.declared.array.Ranges.TheVariants.{Lists}
use Rattle.arrow_data.proofs.Children.{items_of_column}
use Rattle.arrow_data.proofs.Shown.{parts_shown, length_slots, shown}
use Rattle.arrow_data.proofs.array.Array.seen.Goals as goal

pub returns-in-Structs : goal.returns-in-Structs
returns-in-Structs c =
    let a = c.self.inside in
    let cs = c.in-Structs.children.items in
    let slot = struct_slot (bytes_of a.body c.in-Structs.validity) (map (λ (x : Column). x.raw) cs) in
    let ok = subst (AreRanges a.len (type_view a.data_type.value) a.encoding a.body) c.in-Structs.is c.self.invariant.1 in
    let raw : c.args.self.now.raw ≡ slots a.len (λ j. slot j) =
    ap (λ (x : Column). x.raw) (sym c.self.view_is) ∙ ap (λ r. slots a.len (raw_slot a.body r)) c.in-Structs.is in
    let resolved : c.args.self.now.resolved ≡ slots a.len (λ j. struct_slot (bytes_of a.body c.in-Structs.validity) (map (λ (x : Column). x.resolved) cs) j) =
    ap (λ (x : Column). x.resolved) (sym c.self.view_is) ∙ ap (λ r. slots a.len (resolved_slot a.body r)) c.in-Structs.is in
    let shape = ap (λ (x : Column). x.data_type) (sym c.self.view_is) in
    let within : c.args.i < a.len = omega (arith, ap length raw, length_slots a.len (λ j. slot j)) in
    let valid : is_valid_at (bytes_of a.body c.in-Structs.validity) c.args.i ≡ true = search rules in
    rw c.deref-in-Structs.ensures.value (parts_shown c.args.self.now a.len c.args.i (type_view a.data_type.value) a.body c.in-Structs.validity cs raw resolved shape ok.2 within valid)

pub returns-in-Some-range_at : goal.returns-in-Some-range_at
returns-in-Some-range_at c =
    let a = c.self.inside in
    let t = type_view a.data_type.value in
    let w = c.in-Lists.form in
    let v = bytes_of a.body c.in-Lists.validity in
    let o = bytes_of a.body c.in-Lists.offsets in
    let child = c.in-Lists.child.value in
    let ok = subst (AreRanges a.len t a.encoding a.body) c.in-Lists.is c.self.invariant.1 in
    let is = sym c.self.view_is ∙ ap (λ r. column_by t a.encoding a.len a.body r) c.in-Lists.is
    ∙ ap (λ e. column_by t e a.len a.body (Lists w c.in-Lists.validity c.in-Lists.offsets c.in-Lists.child)) ok.0 in
    let within : c.args.i < a.len = omega (arith, ap (λ (x : Column). length x.raw) is, length_slots a.len (λ j. list_slot w v o child.raw j), c.requires) in
    let valid : is_valid_at v c.args.i ≡ true = search rules in
    let low : c.in-Some-range_at.start ≡ item_place w o c.args.i = search rules in
    let high : c.in-Some-range_at.end ≡ item_place w o (c.args.i + 1) = search rules in
    let order : c.in-Some-range_at.start ≤ c.in-Some-range_at.end = search rules in
    let top : c.in-Some-range_at.end ≤ length child.raw = search rules in
    let shown = items_of_column c.args.self.now t w a.len v o child c.args.i c.in-Some-range_at.start c.in-Some-range_at.end is ok.2.typed ok.2.known within valid low high order top in
    rw c.deref-in-Some-range_at.ensures shown

pub at-requires-clause-slot : goal.at-requires-clause-slot
at-requires-clause-slot c = grind (arith, shown)

pub at-requires-clause-lies : goal.at-requires-clause-lies
at-requires-clause-lies c = grind (arith, shown)

pub binary_at-requires-clause-slot : goal.binary_at-requires-clause-slot
binary_at-requires-clause-slot c = grind (arith, shown)

pub binary_at-requires-clause-lies : goal.binary_at-requires-clause-lies
binary_at-requires-clause-lies c = grind (arith, shown)

pub text_at-requires-clause-slot : goal.text_at-requires-clause-slot
text_at-requires-clause-slot c = grind (arith, shown)

pub text_at-requires-clause-lies : goal.text_at-requires-clause-lies
text_at-requires-clause-lies c = grind (arith, shown)

pub text_at-requires-clause-texts : goal.text_at-requires-clause-texts
text_at-requires-clause-texts c = grind (arith, shown)

pub fact_in-text : goal.fact_in-text
fact_in-text c = grind (arith, shown)

pub at-requires-in-FixedBytes-clause-slot : goal.at-requires-in-FixedBytes-clause-slot
at-requires-in-FixedBytes-clause-slot c = grind (arith, shown)

pub at-requires-in-FixedBytes-clause-lies : goal.at-requires-in-FixedBytes-clause-lies
at-requires-in-FixedBytes-clause-lies c = grind (arith, shown)

pub bytes_in-marks-requires : goal.bytes_in-marks-requires
bytes_in-marks-requires c = grind (arith, shown)

pub bytes_in-offsets-requires : goal.bytes_in-offsets-requires
bytes_in-offsets-requires c = grind (arith, shown)

pub range_at-requires-clause-slot : goal.range_at-requires-clause-slot
range_at-requires-clause-slot c = grind (arith, shown)

pub range_at-requires-clause-bits : goal.range_at-requires-clause-bits
range_at-requires-clause-bits c = grind (arith, shown)

pub range_at-requires-clause-places : goal.range_at-requires-clause-places
range_at-requires-clause-places c = grind (arith, shown)

pub bytes_in-requires : goal.bytes_in-requires
bytes_in-requires c = grind (arith, shown)

pub is_valid-requires : goal.is_valid-requires
is_valid-requires c = grind (arith, shown)

pub at-requires-in-Ints-clause-slot : goal.at-requires-in-Ints-clause-slot
at-requires-in-Ints-clause-slot c = grind (arith, shown)

pub at-requires-in-Ints-clause-lies : goal.at-requires-in-Ints-clause-lies
at-requires-in-Ints-clause-lies c = grind (arith, shown)

pub returns-in-Some : goal.returns-in-Some
returns-in-Some c = grind (arith, shown)

pub returns-in-None : goal.returns-in-None
returns-in-None c = grind (arith, shown)

pub returns-in-Some-binary_at : goal.returns-in-Some-binary_at
returns-in-Some-binary_at c = grind (arith, shown)

pub returns-in-None-binary_at : goal.returns-in-None-binary_at
returns-in-None-binary_at c = grind (arith, shown)

pub returns-in-Some-text_at : goal.returns-in-Some-text_at
returns-in-Some-text_at c = grind (arith, shown)

pub returns-in-None-text_at : goal.returns-in-None-text_at
returns-in-None-text_at c = grind (arith, shown)

pub returns-in-Some-at : goal.returns-in-Some-at
returns-in-Some-at c = grind (arith, shown)

pub returns-in-None-at : goal.returns-in-None-at
returns-in-None-at c = grind (arith, shown)

pub returns-in-None-range_at : goal.returns-in-None-range_at
returns-in-None-range_at c = grind (arith, shown)

pub returns-in-Nulls : goal.returns-in-Nulls
returns-in-Nulls c = grind (arith, shown)

pub returns-in-Some-at-2 : goal.returns-in-Some-at-2
returns-in-Some-at-2 c = grind (arith, shown)

pub returns-in-None-at-2 : goal.returns-in-None-at-2
returns-in-None-at-2 c = grind (arith, shown)
