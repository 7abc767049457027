-- Texts that are put into an output buffer one after another.
use Rattle.std.proofs.Common.{◌≡◌, ◌≤◌, ℕ, zero, suc, ◌+◌, ◌-◌, ◌^◌, min, List, [], ◌∷◌, ◌++◌, length, take, drop, refl, sym, ap, ◌∙◌, arith, length-append}
use Rattle.arrowflow_calls.specs.declared.pens.TextPen.{TextPen}
use Rattle.arrowflow_calls.specs.Pens.{Puts, moved, written}
use Rattle.arrowflow_calls.specs.Survey.{reported}
use Rattle.arrowflow_calls.specs.Texts.{filled}

-- the output buffer after a text was written over its bytes, from an offset on
abbrev pub over : List ℕ → ℕ → List ℕ → List ℕ
over [] at text = []
over (x ∷ room) zero [] = x ∷ room
over (x ∷ room) zero (y ∷ text) = y ∷ over room zero text
over (x ∷ room) (suc at) text = x ∷ over room at text

-- an output buffer filled with as much as fits, which is k bytes
filled_by : (room text : List ℕ) (k : ℕ) → k ≡ min (length text) (length room) → take k text ++ drop k room ≡ over room zero text
filled_by [] text zero e = refl
filled_by [] text (suc k) e = absurd (omega (arith, e))
filled_by (x ∷ room) [] zero e = refl
filled_by (x ∷ room) [] (suc k) e = absurd (omega (arith, e))
filled_by (x ∷ room) (y ∷ text) zero e = absurd (omega (arith, e))
filled_by (x ∷ room) (y ∷ text) (suc k) e = ap (λ l. y ∷ l) (filled_by room text k (omega (arith, e)))

-- an output buffer is filled from its beginning on
pub filled_over : (room text : List ℕ) → filled room text ≡ over room zero text
filled_over room text = filled_by room text (min (length text) (length room)) refl

-- and after an offset from there on
pub written_over : (room : List ℕ) (at : ℕ) (text : List ℕ) → written room at text ≡ over room at text
written_over [] zero text = filled_over [] text
written_over [] (suc at) text = filled_over [] text
written_over (x ∷ room) zero text = filled_over (x ∷ room) text
written_over (x ∷ room) (suc at) text = ap (λ l. x ∷ l) (written_over room at text)

-- a text after a text, from the offset where that one ends or past the end of the buffer
over_more : (room : List ℕ) (at : ℕ) (u v : List ℕ) (next : ℕ) (most : ℕ) → length room ≤ most → next ≡ min (at + length u) most
    → over (over room at u) next v ≡ over room at (u ++ v)
over_more [] at u v next most fits e = refl
over_more (x ∷ room) zero [] v zero most fits e = refl
over_more (x ∷ room) zero [] v (suc next) most fits e = absurd (omega (arith, e))
over_more (x ∷ room) zero (y ∷ u) v zero most fits e = absurd (omega (arith, e, fits))
over_more (x ∷ room) zero (y ∷ u) v (suc next) most fits e =
    ap (λ l. y ∷ l) (over_more room zero u v next (most - 1) (omega (arith, fits)) (omega (arith, e, fits)))
over_more (x ∷ room) (suc at) u v zero most fits e = absurd (omega (arith, e, fits))
over_more (x ∷ room) (suc at) u v (suc next) most fits e =
    ap (λ l. x ∷ l) (over_more room at u v next (most - 1) (omega (arith, fits)) (omega (arith, e, fits)))

-- a number of bytes that can be reported
abbrev pub IsReported : ℕ → Type 0
IsReported n = n ≤ 2 ^ 64 - 1

-- a pen after two texts
pens_same : (p : TextPen) (u v : List ℕ) → moved (moved p u) v ≡ moved p (u ++ v)
pens_same p u v =
    let sum = length-append u v in
    λ i. record { at = at sum i; size = size sum i }
  where
    at : length (u ++ v) ≡ length u + length v → (moved (moved p u) v).at ≡ (moved p (u ++ v)).at
    at sum = omega (arith, sum)

    size : length (u ++ v) ≡ length u + length v → (moved (moved p u) v).size ≡ (moved p (u ++ v)).size
    size sum = omega (arith, sum)

-- the output buffer after two texts
room_more : (old between new : List ℕ) (at next : ℕ) (u v : List ℕ) → IsReported (length old) → next ≡ reported (at + length u) → between ≡ written old at u → new ≡ written between next v → new ≡ written old at (u ++ v)
room_more old between new at next u v fits is first then =
    then ∙ written_over between next v ∙ ap (λ room. over room next v) (first ∙ written_over old at u)
    ∙ over_more old at u v next (2 ^ 64 - 1) fits is ∙ sym (written_over old at (u ++ v))

-- a text was put after a text
pub puts_more : (old between new : List ℕ) (p q s : TextPen) (u v : List ℕ) → IsReported (length old) → Puts old p u q between → Puts between q v s new → Puts old p (u ++ v) s new
puts_more old between new p q s u v fits first then =
    record {
      room = room_more old between new p.at q.at u v fits (ap (λ (r : TextPen). r.at) first.pen) first.room then.room;
      pen = then.pen ∙ ap (λ r. moved r v) first.pen ∙ pens_same p u v;
    }

-- an output buffer keeps its length
length_over : (room : List ℕ) (at : ℕ) (text : List ℕ) → length (over room at text) ≡ length room
length_over [] at text = refl
length_over (x ∷ room) zero [] = refl
length_over (x ∷ room) zero (y ∷ text) = ap suc (length_over room zero text)
length_over (x ∷ room) (suc at) text = ap suc (length_over room at text)

-- so does one into which a text was put
pub same_length : (old new text : List ℕ) (p q : TextPen) → Puts old p text q new → length new ≡ length old
same_length old new text p q puts = ap length (puts.room ∙ written_over old p.at text) ∙ length_over old p.at text

-- three texts were put one after another into an output buffer, from its beginning on
pub all_put : (old r s new u v w : List ℕ) (p q q' t t' e : TextPen) → IsReported (length old) → p.at ≡ 0 → Puts old p u q r → q'.at ≡ q.at → Puts r q' v t s → t'.at ≡ t.at → Puts s t' w e new
    → new ≡ filled old (u ++ v ++ w)
all_put old r s new u v w p q q' t t' e fits start first then second after third =
    let sum = length-append u v in
    let at : q'.at ≡ reported (0 + length u) = then ∙ ap (λ (x : TextPen). x.at) first.pen ∙ ap (λ n. reported (n + length u)) start in
    let up : t'.at ≡ reported (q'.at + length v) = after ∙ ap (λ (x : TextPen). x.at) second.pen in
    let next : t'.at ≡ reported (0 + length (u ++ v)) = omega (arith, at, up, sum) in
    let two = room_more old r s 0 q'.at u v fits at (first.room ∙ ap (λ n. written old n u) start) second.room in
    room_more old s new 0 t'.at (u ++ v) w fits next two third.room

-- the size of a text that begins here
pub size_anew : (p q : TextPen) (text : List ℕ) → p.size ≡ 0 → q ≡ moved p text → q.size ≡ reported (length text)
size_anew p q text start is = omega (arith, start, ap (λ (r : TextPen). r.size) is)
