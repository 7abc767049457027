-- The entry at the index of an id among rising ids.
use Rattle.std.proofs.Common.{◌≡◌, ◌≢◌, ◌<◌, ◌+◌, ◌<ℤ◌, ℕ, zero, suc, ℤ, false, List, [], ◌∷◌, length, get_or, set, Some, None, Result, Ok, Err, MatchResult, ⊎_elim, refl, sym, ap, ◌∙◌, subst, arith}
use Rattle.std.specs.List.{insert}
use Rattle.std.specs.List.Sorted.{IsSearchInRange, IsBinarySearchResult, IsNonDecreasingBy}
use Rattle.std.specs.Ordering.{int_cmp, is_lt, ordering_index}
use Rattle.std.proofs.lemmas.Bool.{cases_lt}
use Rattle.std.proofs.lemmas.Cmp.{int_cmp_total, int_ranked}
use Rattle.std.proofs.lemmas.Int.{ints, to_z-of_z}
use mir.Syntax.{w64}
use mir.Val.{SFits, of_z, to_z}
use Rattle.std.proofs.lemmas.List.{set-get_or}
use Rattle.std.proofs.lemmas.List.Elements.{All-from_recursion}
use Rattle.std.proofs.lemmas.List.Sorted.{searchable_from_sorted}
use Rattle.arrow_data.specs.Column.{ValueList}
use Rattle.arrow_data.specs.Listed.{listed}
use Rattle.arrow_data.proofs.Listing.{listed_absent, listed_at}
use Rattle.arrow_dict.specs.Dictionaries.{IsRising, placed}
use Rattle.arrow_dict.specs.Places.{IsAt, IsGap}
use Rattle.arrow_dict.proofs.Placing.{by_order, lesser_other, placed_before, placed_after, placed_over, rising_placed}

-- ids rise from index to index
rises : (ds : List (ℤ × ValueList)) (i j : ℕ) (e : ℤ × ValueList) → IsRising ds → i < j → j < length ds → (get_or ds i e).0 <ℤ (get_or ds j e).0
rises [] i j e rising less h = absurd (omega arith)
rises (d ∷ ds) i zero e rising less h = absurd (omega arith)
rises (d ∷ ds) zero (suc j) e rising less h = All-from_recursion (λ (f : ℤ × ValueList). d.0 <ℤ f.0) ds rising.0 j e (omega arith)
rises (d ∷ ds) (suc i) (suc j) e rising less h = rises ds i j e rising.1 (omega arith) (omega arith)

-- a greater id is not less
not_less : (x y : ℤ) → y <ℤ x → is_lt (int_cmp x y) ≡ false
not_less x y greater = by_order x y (λ is less. absurd (omega (arith, ints))) (λ is same. ap is_lt is) (λ is h. ap is_lt is)

-- so a binary search may search for one
searchable : (ds : List (ℤ × ValueList)) (id : ℤ) → IsRising ds → IsNonDecreasingBy (λ (e : ℤ × ValueList). ordering_index (int_cmp e.0 id)) ds
searchable ds id rising =
    searchable_from_sorted int_cmp_total (λ (e : ℤ × ValueList). e.0) ds id
    (λ k e low high. not_less (get_or ds (k + 1) e).0 (get_or ds k e).0 (rises ds k (k + 1) e rising (omega arith) high))

-- what the search finds
pub searched : (ds : List (ℤ × ValueList)) (id : ℤ) (r : Result ℕ ℕ) → IsRising ds → IsSearchInRange r (length ds) → IsBinarySearchResult (λ (e : ℤ × ValueList). int_cmp e.0 id) ds r
    → MatchResult r (IsAt ds id) (IsGap ds id)
searched ds id (Ok i) rising inside equal = record { inside = inside; has = λ e. int_ranked (get_or ds i e).0 id _ (sym (equal e)) }
searched ds id (Err i) rising inside parted =
    let parts = parted (searchable ds id rising) in
    record {
      inside = inside;
      below = λ k e h. int_ranked (get_or ds k e).0 id _ (sym (parts.0 k e (omega arith) h));
      above = λ k e h l. let greater : id <ℤ (get_or ds k e).0 = int_ranked (get_or ds k e).0 id _ (sym (parts.1 k e h l)) in greater;
    }

-- the entry at the index of its id is listed for it
entry_listed : (ds : List (ℤ × ValueList)) (i : ℕ) (e : ℤ × ValueList) → IsRising ds → i < length ds → listed ds (get_or ds i e).0 ≡ Some (get_or ds i e).1
entry_listed ds i e rising h =
    listed_at ds (get_or ds i e).0 i e (λ k l. lesser_other (get_or ds k e).0 (get_or ds i e).0 (rises ds k i e rising l h)) h refl

-- an entry that replaces it
pub placed_at : (ds : List (ℤ × ValueList)) (i : ℕ) (e : ℤ × ValueList) (v : ValueList) → IsRising ds → i < length ds → placed (get_or ds i e).0 v ds ≡ set ds i ((get_or ds i e).0, v)
placed_at [] i e v rising h = absurd (omega arith)
placed_at (d ∷ ds) zero e v rising h = placed_over d.0 v d ds refl
placed_at (d ∷ ds) (suc i) e v rising h =
    placed_after (get_or ds i e).0 v d ds (All-from_recursion (λ (f : ℤ × ValueList). d.0 <ℤ f.0) ds rising.0 i e (omega arith))
    ∙ ap (λ es. d ∷ es) (placed_at ds i e v rising.1 (omega arith))

-- no entry has an id that is in a gap
not_in_gap : (ds : List (ℤ × ValueList)) (id : ℤ) (i k : ℕ) (e : ℤ × ValueList) → IsGap ds id i → k < length ds → (get_or ds k e).0 ≢ id
not_in_gap ds id i k e gap h same =
    ⊎_elim
    (λ below. let less : (get_or ds k e).0 <ℤ id = gap.below k e below in omega (arith, ints))
    (λ above. let greater : id <ℤ (get_or ds k e).0 = gap.above k e above h in omega (arith, ints))
    (cases_lt k i)

-- nothing is listed for it
pub listed_gap : (ds : List (ℤ × ValueList)) (id : ℤ) (i : ℕ) → IsGap ds id i → listed ds id ≡ None
listed_gap ds id i gap = listed_absent ds id (λ k e h. not_in_gap ds id i k e gap h)

-- an entry that is put into the gap
pub placed_gap : (ds : List (ℤ × ValueList)) (id : ℤ) (i : ℕ) (v : ValueList) → IsGap ds id i → placed id v ds ≡ insert ds i (id, v)
placed_gap [] id zero v gap = refl
placed_gap [] id (suc i) v gap = absurd (omega (arith, gap.inside))
placed_gap (d ∷ ds) id zero v gap = placed_before id v d ds (gap.above 0 d (omega arith) (omega arith))
placed_gap (d ∷ ds) id (suc i) v gap =
    let rest : IsGap ds id i = record {
      inside = omega (arith, gap.inside);
      below = λ k e h. gap.below (suc k) e (omega arith);
      above = λ k e h l. gap.above (suc k) e (omega arith) (omega arith);
    } in
    placed_after id v d ds (gap.below 0 d (omega arith)) ∙ ap (λ es. d ∷ es) (placed_gap ds id i v rest)

-- the entry at the index of an id is what is listed for it
pub found_at : (ds : List (ℤ × ValueList)) (id : ℤ) (i : ℕ) (e : ℤ × ValueList) → IsRising ds → IsAt ds id i → listed ds id ≡ Some (get_or ds i e).1
found_at ds id i e rising at = ap (λ x. listed ds x) (sym (at.has e)) ∙ entry_listed ds i e rising at.inside

module _ (ds : List (ℤ × ValueList)) (id : ℤ) (i : ℕ) (e : ℤ × ValueList) (rising : IsRising ds) (at : IsAt ds id i) (is : e ≡ get_or ds i e) where
  -- the entry that was read has the id
  pub id_found : e.0 ≡ id
  id_found = ap (λ x. x.0) is ∙ at.has e

  -- what was read is what is listed
  pub found : listed ds id ≡ Some e.1
  found = found_at ds id i e rising at ∙ ap (λ (x : ℤ × ValueList). Some x.1) (sym is)

  -- what is written there is what is placed
  pub placed_found : (v : ValueList) → placed id v ds ≡ set ds i (id, v)
  placed_found v =
      ap (λ x. placed x v ds) (sym (at.has e)) ∙ placed_at ds i e v rising at.inside ∙ ap (λ x. set ds i (x, v)) (at.has e)

  -- what was read, written back
  pub unchanged : set ds i (e.0, e.1) ≡ ds
  unchanged = ap (λ (x : ℤ × ValueList). set ds i x) is ∙ set-get_or ds i e

-- the index of an id as a call passes it
pub at_passed : (ds old : List (ℤ × ValueList)) (id : ℤ) (i : ℕ) → ds ≡ old → SFits w64 id → IsAt old (to_z w64 (of_z w64 id)) i → IsAt ds id i
at_passed ds old id i view fits at = subst (λ x. IsAt x id i) (sym view) (subst (λ x. IsAt old x i) (to_z-of_z w64 id fits) at)

-- and a gap
pub gap_passed : (ds old : List (ℤ × ValueList)) (id : ℤ) (i : ℕ) → ds ≡ old → SFits w64 id → IsGap old (to_z w64 (of_z w64 id)) i → IsGap ds id i
gap_passed ds old id i view fits gap = subst (λ x. IsGap x id i) (sym view) (subst (λ x. IsGap old x i) (to_z-of_z w64 id fits) gap)

module _ (ds old : List (ℤ × ValueList)) (id x : ℤ) (i : ℕ) (v : ValueList) (rising : IsRising ds) (view : ds ≡ old) (passed : x ≡ id) where
  -- a dictionary that is written at the index of its id
  pub written : (e : ℤ × ValueList) → IsAt ds id i → e ≡ get_or ds i e → set ds i (x, v) ≡ placed id v old
  written e at is = ap (λ y. set ds i (y, v)) passed ∙ sym (placed_found ds id i e rising at is v) ∙ ap (placed id v) view

  -- the ids still rise
  pub written_rises : (e : ℤ × ValueList) → IsAt ds id i → e ≡ get_or ds i e → IsRising (set ds i (x, v))
  written_rises e at is = subst IsRising (sym (written e at is)) (rising_placed old id v (subst IsRising view rising))

  -- a dictionary that is put into the gap
  pub put_in : IsGap ds id i → insert ds i (x, v) ≡ placed id v old
  put_in gap = ap (λ y. insert ds i (y, v)) passed ∙ sym (placed_gap ds id i v gap) ∙ ap (placed id v) view

  -- the ids still rise
  pub put_in_rises : IsGap ds id i → IsRising (insert ds i (x, v))
  put_in_rises gap = subst IsRising (sym (put_in gap)) (rising_placed old id v (subst IsRising view rising))
