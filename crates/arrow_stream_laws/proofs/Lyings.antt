-- The frames and the parts of a connection that lie in the first bytes.
use Rattle.std.proofs.Common.{◌≡◌, ℕ, ◌+◌, ◌-◌, ◌<◌, ◌≤◌, List, [], ◌∷◌, ◌++◌, length, map, refl, sym, ap, ◌∙◌, arith, inl, inr, length-append}
use Rattle.std.proofs.lemmas.List.{append-nil}
use Rattle.std.proofs.lemmas.Bool.{cases_lt, le-ltb, lt-ltb}
use Rattle.arrow_stream_laws.specs.Rows.{rows_of}
use Rattle.arrow_stream_laws.specs.Frames.{Frame, frames_bytes, lying}
use Rattle.arrow_stream_laws.proofs.Chains.{rows_in}
use Rattle.arrow_stream_laws.specs.Text.{joined, lying_parts}
use Rattle.arrow_stream_laws.proofs.Chains.{frames_bytes-append, lying-step, lying-stop}
use Rattle.arrow_stream_laws.proofs.Parts.{NoTables}
use Rattle.arrow_stream_laws.proofs.Texts.{no_rows}

-- FRAMES AND PARTS THAT LIE IN A PREFIX

pub lying_past : (n : ℕ) (xs ys : List Frame) → length (frames_bytes xs) ≤ n → lying n (xs ++ ys) ≡ xs ++ lying (n - length (frames_bytes xs)) ys
lying_past n [] ys h = let e : n ≡ n - 0 = omega arith in ap (λ k. lying k ys) e
lying_past n (x ∷ xs) ys h =
    let len = length-append x.bytes (frames_bytes xs) in
    let e : n - length x.bytes - length (frames_bytes xs) ≡ n - length (x.bytes ++ frames_bytes xs) = omega arith in
    lying-step n x (xs ++ ys) (omega arith) ∙ ap (λ r. x ∷ r) (lying_past (n - length x.bytes) xs ys (omega arith) ∙ ap (λ k. xs ++ lying k ys) e)

pub lying_within : (n : ℕ) (xs ys : List Frame) → n < length (frames_bytes xs) → lying n (xs ++ ys) ≡ lying n xs
lying_within n [] ys h = absurd (omega arith)
lying_within n (x ∷ xs) ys h =
    let len = length-append x.bytes (frames_bytes xs) in
    elim (cases_lt n (length x.bytes)) [
      | inl k ↦ lying-stop n x (xs ++ ys) k ∙ sym (lying-stop n x xs k)
      | inr k ↦ lying-step n x (xs ++ ys) k ∙ ap (λ r. x ∷ r) (lying_within (n - length x.bytes) xs ys (omega arith)) ∙ sym (lying-step n x xs k)
    ]

pub lying_all : (n : ℕ) (xs : List Frame) → length (frames_bytes xs) ≤ n → lying n xs ≡ xs
lying_all n xs h = ap (lying n) (sym (append-nil xs)) ∙ lying_past n xs [] h ∙ append-nil xs

pub parts-step : (n : ℕ) (p : List ℕ) (ps : List (List ℕ)) → length p ≤ n → lying_parts n (p ∷ ps) ≡ 1 + lying_parts (n - length p) ps
parts-step n p ps h = rw (le-ltb n (length p) h)

pub parts-stop : (n : ℕ) (p : List ℕ) (ps : List (List ℕ)) → n < length p → lying_parts n (p ∷ ps) ≡ 0
parts-stop n p ps h = rw (lt-ltb n (length p) h)

pub parts_past : (n : ℕ) (ps qs : List (List ℕ)) → length (joined ps) ≤ n → lying_parts n (ps ++ qs) ≡ length ps + lying_parts (n - length (joined ps)) qs
parts_past n [] qs h = let e : n ≡ n - 0 = omega arith in ap (λ k. lying_parts k qs) e ∙ omega arith
parts_past n (p ∷ ps) qs h =
    let len = length-append p (joined ps) in
    let e : n - length p - length (joined ps) ≡ n - length (p ++ joined ps) = omega arith in
    let i = parts_past (n - length p) ps qs (omega arith) ∙ ap (λ k. length ps + lying_parts k qs) e in
    parts-step n p (ps ++ qs) (omega arith) ∙ omega (arith, i)

pub parts_within : (n : ℕ) (ps qs : List (List ℕ)) → n < length (joined ps) → lying_parts n (ps ++ qs) ≡ lying_parts n ps
parts_within n [] qs h = absurd (omega arith)
parts_within n (p ∷ ps) qs h =
    let len = length-append p (joined ps) in
    elim (cases_lt n (length p)) [
      | inl k ↦ parts-stop n p (ps ++ qs) k ∙ sym (parts-stop n p ps k)
      | inr k ↦ parts-step n p (ps ++ qs) k ∙ ap (λ r. 1 + r) (parts_within (n - length p) ps qs (omega arith)) ∙ sym (parts-step n p ps k)
    ]

pub parts_count : (n : ℕ) (ps : List (List ℕ)) → lying_parts n ps ≤ length ps
parts_count n [] = omega arith
parts_count n (p ∷ ps) =
    elim (cases_lt n (length p)) [
      | inl k ↦ omega (arith, parts-stop n p ps k)
      | inr k ↦ omega (arith, parts-step n p ps k, parts_count (n - length p) ps)
    ]

pub no_rows_lying : (n : ℕ) (xs : List Frame) → NoTables xs → rows_in (lying n xs) ≡ []
no_rows_lying n [] h = refl
no_rows_lying n (x ∷ xs) h =
    elim (cases_lt n (length x.bytes)) [
      | inl k ↦ ap rows_in (lying-stop n x xs k)
      | inr k ↦ ap rows_in (lying-step n x xs k) ∙ ap (λ r. map rows_of r ++ rows_in (lying (n - length x.bytes) xs)) h.0 ∙ no_rows_lying (n - length x.bytes) xs h.1
    ]

-- the messages of a batch that is not complete give no table
pub part_short : (n : ℕ) (us : List Frame) (f : Frame) → NoTables us → n < length (frames_bytes (us ++ f ∷ [])) → rows_in (lying n (us ++ f ∷ [])) ≡ []
part_short n us f h k =
    let len = ap length (frames_bytes-append us (f ∷ [])) ∙ length-append (frames_bytes us) (f.bytes ++ []) in
    elim (cases_lt n (length (frames_bytes us))) [
      | inl q ↦ ap rows_in (lying_within n us (f ∷ []) q) ∙ no_rows_lying n us h
      | inr q ↦
          let short : n - length (frames_bytes us) < length f.bytes = omega (arith, ap length (append-nil f.bytes)) in
          ap rows_in (lying_past n us (f ∷ []) q ∙ ap (λ r. us ++ r) (lying-stop (n - length (frames_bytes us)) f [] short) ∙ append-nil us) ∙ no_rows us h
    ]
