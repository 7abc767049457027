use Rattle.std.proofs.Common.{◌<◌, length, not, ap, sym, ◌∙◌, rules, arith}
use Rattle.std.specs.BTreeMap.{get}
use Rattle.std.proofs.lemmas.Int.{to_z-of_z}
use mir.Val.{SFits}
use mir.Syntax.{w64}
use Rattle.std.specs.Ordering.{int_cmp}
use Rattle.arrow_meta_schema.proofs.Places.{known_below, look_same, look_other, look_new, look_done}
use Rattle.arrow_meta_schema.proofs.dictionary_types.encoded_differ.Goals as goal
use Rattle.arrow_meta_schema.proofs.dictionary_types.encoded_differ.Goals.{in-Some+else-not-same_type, in-None+in_ok-insert-in-None}

-- the index that the map has for a known id lies before the current field
pub bounds-fields-first : goal.bounds-fields-first
bounds-fields-first c =
    omega (
      arith,
      known_below c.loop-i.i c.args.fields.now (λ q. get int_cmp c.loop-i.places q) _ c.in-Some.first.now
          c.loop-i.invariant (omega arith) c.in-Some.ensures.value,
    )

-- and so its offset in memory is in bounds too
pub offset_bounds-fields-first : goal.offset_bounds-fields-first
offset_bounds-fields-first c =
    let below : c.in-Some.first.now < length c.args.fields.now =
    omega (
      arith,
      known_below c.loop-i.i c.args.fields.now (λ q. get int_cmp c.loop-i.places q) _ c.in-Some.first.now
          c.loop-i.invariant (omega arith) c.in-Some.ensures.value,
    ) in
    search rules

-- the type at that index differs
pub returns-then-not-same_type : goal.returns-then-not-same_type
returns-then-not-same_type c = record {
  differ = sym (look_other c.loop-i.i c.in-Some.first.now c.args.fields.now c.index-fields-i.result c.index-fields-first.result
      (λ q. get int_cmp c.loop-i.places q) c.loop-i.invariant c.loop-i-test.true c.index-fields-i.is c.in-Some.ensures.value
      c.index-fields-first.is (ap not (sym c.same_type.ensures.same ∙ c.if-not-same_type.true)));
}

-- one more field is checked
pub loop-i-preserved : goal.loop-i-preserved
loop-i-preserved c =
    elim c.match-get.branch [
      | in-Some+else-not-same_type w ↦
          let here = look_same c.loop-i.i w.in-Some.first.now c.args.fields.now c.index-fields-i.result w.index-fields-first.result
          (λ q. get int_cmp c.loop-i.places q) c.loop-i.invariant c.loop-i-test.true c.index-fields-i.is w.in-Some.ensures.value
          w.index-fields-first.is (ap not (sym w.same_type.ensures.same ∙ w.if-not-same_type.false)) in
          rw (w.places-is) here
      | in-None+in_ok-insert-in-None w ↦
          let fits : SFits w64 c.index-fields-i.result.id = search rules in
          let added = simp to_z-of_z at w.in_ok-insert-in-None.ensures.updates.0 in
          let here = look_new c.loop-i.i c.args.fields.now c.index-fields-i.result
          (λ q. get int_cmp c.loop-i.places q) (λ q. get int_cmp w.insert.new.self q) c.loop-i.invariant c.loop-i-test.true c.index-fields-i.is
          w.in-None.ensures.value added in
          rw (w.places-is) here
    ]

-- all fields are checked
pub returns : goal.returns
returns c = record {
  differ = sym (look_done c.loop-i.i c.args.fields.now (λ q. get int_cmp c.loop-i.places q) c.loop-i.invariant (omega arith));
}
