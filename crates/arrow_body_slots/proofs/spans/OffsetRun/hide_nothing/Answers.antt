use Rattle.std.proofs.Common.{◌≡◌, ◌≤◌, ◌<◌, ◌+◌, ℕ, List, true, false, sym, ◌∙◌, subst, arith, inl, inr}
use Rattle.std.proofs.lemmas.Bool.{cases_lt}
use Rattle.arrow_bits.specs.Bitmap.{bit_of}
use Rattle.arrow_body_slots.specs.Spans.{place_in}
use Rattle.arrow_body_slots.proofs.spans.OffsetRun.hide_nothing.Goals as goal

-- nothing lies under one more null, and there is no null up to the next
still : (bits : List ℕ) (place : ℕ → ℕ) (start i next : ℕ) → ((j : ℕ) → start ≤ j → j < i → bit_of bits j ≡ false → place (j + 1) ≡ place j) → place (i + 1) ≡ place i
    → ((j : ℕ) → i + 1 ≤ j → j < next → bit_of bits j ≡ true) → (j : ℕ) → start ≤ j → j < next → bit_of bits j ≡ false → place (j + 1) ≡ place j
still bits place start i next before here set j low high unset = elim (cases_lt j i) [
  | inl below ↦ before j low below unset
  | inr above ↦ elim (cases_lt i j) [
    | inl after ↦ let no : true ≡ false = sym (set j (omega (arith, after)) high) ∙ unset in cc
    | inr at ↦ let same : i ≡ j = omega (arith, above, at) in subst (λ k. place (k + 1) ≡ place k) same here
  ]
]

-- up to the first null there is none
pub loop-i-init : goal.loop-i-init
loop-i-init c =
    let first = c.first_unset-i.ensures in
    (first.low, first.high, λ j low high unset. let no : true ≡ false = sym (first.set j low high) ∙ unset in cc)

pub loop-i-preserved : goal.loop-i-preserved
loop-i-preserved c =
    let s = c.args.self in
    let i = c.loop-i.i in
    let next = c.first_unset-i-in-loop-i.ensures in
    let here : place_in s (i + 1) ≡ place_in s i = sym c.at.ensures ∙ c.if-at.false ∙ c.at-in-loop-i.ensures in (
      omega (arith, next.low, c.loop-i.invariant.0),
      next.high,
      still c.args.bits.now (place_in s) s.start i c.first_unset-i-in-loop-i.result c.loop-i.invariant.2 here next.set,
    )

-- so nothing lies under any null
pub returns : goal.returns
returns c = λ all j low high unset. c.loop-i.invariant.2 j low (omega (arith, high, c.loop-i-test.false)) unset
