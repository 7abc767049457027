-- The segments of a dictionary, and the search among their starts.
use Rattle.std.proofs.Common.{◌≡◌, ℕ, zero, suc, ◌+◌, ◌-◌, ◌<◌, ◌≤◌, List, [], ◌∷◌, ◌++◌, length, get_or, refl, sym, ap, ◌∙◌, arith, append_assoc, subst, length-append, map, None}
use Rattle.std.proofs.lemmas.List.{append-nil, get_or_append_left, get_or-append-add, get_or-map, length-map, map_push}
use Rattle.std.proofs.lemmas.List.Elements.{All-from_recursion}
use Rattle.std.specs.List.{AllByRecursion}
use Rattle.arrow_types.specs.Field.{TypeShape}
use Rattle.arrow_layout.specs.Fits.{AllFit, FitsType}
use Rattle.arrow_layout.specs.PlainValue.{PlainValue, value_at, null_value}
use Rattle.arrow_data.specs.Column.{Column, ValueList, HasValue, IsColumn}
use Rattle.arrow_data.specs.Segments.{columns_of, joined, IsSegment, starts_from, starts_of, Between}
use Rattle.arrow_data.specs.declared.array.Segment.{Segment}

-- the values with those of one more column
pub joined_push : (cs : List Column) (c : Column) → joined (cs ++ c ∷ []) ≡ joined cs ++ c.raw
joined_push [] c = append-nil c.raw
joined_push (x ∷ cs) c = ap (λ vs. x.raw ++ vs) (joined_push cs c) ∙ sym (append_assoc x.raw (joined cs) c.raw)

-- one more segment of the type leaves all segments of the type
pub segments_push : (t : TypeShape) (cs : List Column) (c : Column) → AllByRecursion (IsSegment t) cs → IsSegment t c → AllByRecursion (IsSegment t) (cs ++ c ∷ [])
segments_push t [] c h s = (s, tt)
segments_push t (x ∷ cs) c h s = (h.0, segments_push t cs c h.1 s)

-- the start of one more segment
pub starts_push : (k : ℕ) (cs : List Column) (c : Column) → starts_from k (cs ++ c ∷ []) ≡ starts_from k cs ++ (k + length (joined cs)) ∷ []
starts_push k [] c = ap (λ n. n ∷ []) (omega arith)
starts_push k (x ∷ cs) c =
    let end : k + length x.raw + length (joined cs) ≡ k + length (x.raw ++ joined cs) = omega (arith, length-append x.raw (joined cs)) in
    ap (λ ns. k ∷ ns) (starts_push (k + length x.raw) cs c ∙ ap (λ n. starts_from (k + length x.raw) cs ++ n ∷ []) end)

-- the columns with that of one more segment
pub columns_push : (parts : List Segment) (s : Segment) → columns_of (parts ++ s ∷ []) ≡ columns_of parts ++ s.array.value ∷ []
columns_push parts s = map_push (λ (x : Segment). x.array.value) parts s

-- the starts with that of one more segment
pub starts_of_push : (parts : List Segment) (s : Segment) → starts_of (parts ++ s ∷ []) ≡ starts_of parts ++ s.start ∷ []
starts_of_push parts s = map_push (λ (x : Segment). x.start) parts s

-- with the values of one more column of the type, all values fit the type
all_both : (P : PlainValue → Type 0) (xs ys : List PlainValue) → AllByRecursion P xs → AllByRecursion P ys → AllByRecursion P (xs ++ ys)
all_both P [] ys h k = k
all_both P (x ∷ xs) ys h k = (h.0, all_both P xs ys h.1 k)

pub fits_push : (t : TypeShape) (xs : List PlainValue) (c : Column) → AllFit t None xs → IsColumn c → c.data_type ≡ t → c.encoding ≡ None → AllFit t None (xs ++ c.raw)
fits_push t xs c h known typed plain =
    all_both (FitsType t None) xs c.raw h (subst (λ e. AllFit t e c.raw) plain (subst (λ x. AllFit x c.encoding c.raw) typed known.fits))

-- what one more segment changes
pub ruleset segments = (fits_push, joined_push, segments_push, length-append, starts_push, columns_push, starts_of_push)

-- if there is a value, there is a first segment, and it begins at the first index
pub first_start : (k : ℕ) (cs : List Column) (i : ℕ) → i < length (joined cs) → (0 < length (starts_from k cs)) × (get_or (starts_from k cs) 0 0 ≡ k)
first_start k [] i h = absurd (omega arith)
first_start k (c ∷ cs) i h = (omega arith, refl)

-- a start is not below the first
start_from : (k : ℕ) (cs : List Column) (s : ℕ) → s < length cs → k ≤ get_or (starts_from k cs) s 0
start_from k [] s h = absurd (omega arith)
start_from k (c ∷ cs) zero h = omega arith
start_from k (c ∷ cs) (suc s) h = omega (arith, start_from (k + length c.raw) cs s (omega arith))

-- an index before the next start lies in the first column
first_inside : (k : ℕ) (c : Column) (cs : List Column) (i : ℕ) → k ≤ i → (0 + 1 < length (c ∷ cs) → i < get_or (starts_from k (c ∷ cs)) (0 + 1) 0) → i < k + length (c.raw ++ joined cs) → i - k < length c.raw
first_inside k c [] i b a t = omega (arith, length-append c.raw [])
first_inside k c (x ∷ cs) i b a t = let here : i < k + length c.raw = a (omega arith) in omega arith

-- the last segment whose values begin at or before i
pub found_segment : (k : ℕ) (cs : List Column) (s i : ℕ) (d : Column) → s < length cs → get_or (starts_from k cs) s 0 ≤ i → (s + 1 < length cs → i < get_or (starts_from k cs) (s + 1) 0) → i < k + length (joined cs)
    → (i - get_or (starts_from k cs) s 0 < length (get_or cs s d).raw) × (value_at (get_or cs s d).raw (i - get_or (starts_from k cs) s 0) ≡ value_at (joined cs) (i - k))
found_segment k [] s i d h b a t = absurd (omega arith)
found_segment k (c ∷ cs) zero i d h b a t =
    let inside : i - k < length c.raw = first_inside k c cs i b a t in
    (inside, sym (get_or_append_left c.raw (joined cs) null_value (i - k) inside))
found_segment k (c ∷ cs) (suc s) i d h b a t =
    let low : k + length c.raw ≤ get_or (starts_from (k + length c.raw) cs) s 0 = start_from (k + length c.raw) cs s (omega arith) in
    let len : length (c.raw ++ joined cs) ≡ length c.raw + length (joined cs) = length-append c.raw (joined cs) in
    let more = found_segment (k + length c.raw) cs s i d (omega arith) b (λ u. let e : suc s + 1 ≡ suc (s + 1) = omega arith in subst (λ n. i < get_or (starts_from k (c ∷ cs)) n 0) e (a (omega arith))) (omega arith) in
    let place : i - k ≡ length c.raw + (i - (k + length c.raw)) = omega arith in
    (more.0, more.1 ∙ sym (ap (value_at (c.raw ++ joined cs)) place ∙ get_or-append-add c.raw (joined cs) (i - (k + length c.raw)) null_value))

-- the values of a segment, one after another
pub found_run : (k : ℕ) (cs : List Column) (s j : ℕ) (d : Column) → s < length cs → j < length (get_or cs s d).raw
    → (get_or (starts_from k cs) s 0 - k + j < length (joined cs)) × (value_at (joined cs) (get_or (starts_from k cs) s 0 - k + j) ≡ value_at (get_or cs s d).raw j)
found_run k [] s j d h r = absurd (omega arith)
found_run k (c ∷ cs) zero j d h r =
    let place : k - k + j ≡ j = omega arith in
    (omega (arith, length-append c.raw (joined cs)), ap (value_at (c.raw ++ joined cs)) place ∙ get_or_append_left c.raw (joined cs) null_value j r)
found_run k (c ∷ cs) (suc s) j d h r =
    let low : k + length c.raw ≤ get_or (starts_from (k + length c.raw) cs) s 0 = start_from (k + length c.raw) cs s (omega arith) in
    let more = found_run (k + length c.raw) cs s j d (omega arith) r in
    let place : get_or (starts_from (k + length c.raw) cs) s 0 - k + j ≡ length c.raw + (get_or (starts_from (k + length c.raw) cs) s 0 - (k + length c.raw) + j) = omega arith in
    (omega (arith, length-append c.raw (joined cs), more.0), ap (value_at (c.raw ++ joined cs)) place ∙ get_or-append-add c.raw (joined cs) (get_or (starts_from (k + length c.raw) cs) s 0 - (k + length c.raw) + j) null_value ∙ more.1)

-- the column of a segment that was read
at_columns : (parts : List Segment) (n : ℕ) (s : Segment) → get_or (columns_of parts) n s.array.value ≡ (get_or parts n s).array.value
at_columns [] n s = refl
at_columns (x ∷ parts) zero s = refl
at_columns (x ∷ parts) (suc n) s = at_columns parts n s

-- there are as many columns as segments
pub length-columns_of : (parts : List Segment) → length (columns_of parts) ≡ length parts
length-columns_of parts = length-map parts (λ (s : Segment). s.array.value)

-- and as many starts
pub length-starts_of : (parts : List Segment) → length (starts_of parts) ≡ length parts
length-starts_of parts = length-map parts (λ (s : Segment). s.start)

-- the start of a segment that was read
pub start_at : (parts : List Segment) (n : ℕ) (s : Segment) → n < length parts → s ≡ get_or parts n s → get_or (starts_of parts) n 0 ≡ s.start
start_at parts n s h is = get_or-map (λ (x : Segment). x.start) parts n s 0 h ∙ ap (λ (x : Segment). x.start) (sym is)

-- the segment at which the search ends
pub segment_value : (d : ValueList) (parts : List Segment) (low high i : ℕ) (s : Segment) → starts_of parts ≡ starts_from 0 (columns_of parts)
    → AllByRecursion (IsSegment d.data_type) (columns_of parts) → d.values ≡ joined (columns_of parts) → i < length d.values
    → Between (starts_of parts) low high i → high ≤ low + 1 → s ≡ get_or parts low s → HasValue d i s.array.value (i - s.start)
segment_value d parts low high i s from all values within between last is =
    let cs : List Column = columns_of parts in
    let long : length (starts_of parts) ≡ length cs = length-starts_of parts ∙ sym (length-columns_of parts) in
    let here : s.start ≡ get_or (starts_from 0 cs) low 0 = sym (start_at parts low s (omega (arith, between.order, between.inside, length-starts_of parts)) is) ∙ ap (λ x. get_or x low 0) from in
    let same : get_or cs low s.array.value ≡ s.array.value = at_columns parts low s ∙ ap (λ (x : Segment). x.array.value) (sym is) in
    let inside : low < length cs = omega (arith, between.order, between.inside) in
    let next : low + 1 < length cs → i < get_or (starts_from 0 cs) (low + 1) 0 =
    λ u. subst (λ x. i < get_or x (low + 1) 0) from (subst (λ h. i < get_or (starts_of parts) h 0) (omega (arith, between.order)) (between.above (omega (arith, between.order)))) in
    let reached : i < 0 + length (joined cs) = omega (arith, ap length values) in
    let found = found_segment 0 cs low i s.array.value inside (subst (λ x. get_or x low 0 ≤ i) from between.below) next reached in
    let whole : i - 0 ≡ i = omega arith in
    let place : i - s.start ≡ i - get_or (starts_from 0 cs) low 0 = ap (λ x. i - x) here in
    let below : get_or (starts_from 0 cs) low 0 ≤ i = subst (λ x. get_or x low 0 ≤ i) from between.below in
    let past : (k : ℕ) → i - s.start + k < length s.array.value.raw → (i + k < length d.values) × (value_at d.values (i + k) ≡ value_at s.array.value.raw (i - s.start + k)) =
    λ k h.
    let run = found_run 0 cs low (i - s.start + k) s.array.value inside (subst (λ (c : Column). i - s.start + k < length c.raw) (sym same) h) in
    let to : get_or (starts_from 0 cs) low 0 - 0 + (i - s.start + k) ≡ i + k = omega (arith, here, below) in (
      omega (arith, run.0, to, ap length values),
      ap (λ vs. value_at vs (i + k)) values ∙ ap (value_at (joined cs)) (sym to) ∙ run.1 ∙ ap (λ (c : Column). value_at c.raw (i - s.start + k)) same,
    ) in
    let all_of : (k : ℕ) → k < length s.array.value.raw → value_at d.values (i - (i - s.start) + k) ≡ value_at s.array.value.raw k =
    λ k h.
    let run = found_run 0 cs low k s.array.value inside (subst (λ (c : Column). k < length c.raw) (sym same) h) in
    let to : get_or (starts_from 0 cs) low 0 - 0 + k ≡ i - (i - s.start) + k = omega (arith, here, below) in
    ap (λ vs. value_at vs (i - (i - s.start) + k)) values ∙ ap (value_at (joined cs)) (sym to) ∙ run.1 ∙ ap (λ (c : Column). value_at c.raw k) same in
    let first_back : i - s.start ≤ i = omega arith in
    let of_type = All-from_recursion (IsSegment d.data_type) cs all low s.array.value inside in
    record {
      inside = rw (place, ← same) found.0;
      typed = rw (← same) of_type.0;
      plain = rw (← same) of_type.1;
      same = rw (values, place, ← same) (sym (found.1 ∙ ap (value_at (joined cs)) whole));
      follow = past;
      starts = first_back;
      whole = all_of;
    }

-- the search begins with all segments
pub begins : (cs : List Column) (starts : List ℕ) (n i : ℕ) → n ≡ length starts → starts ≡ starts_from 0 cs → i < length (joined cs) → Between starts 0 n i
begins cs starts n i all from within =
    let first = first_start 0 cs i within in
    let some : 0 < length starts = rw from first.0 in
    let zeroth : get_or starts 0 0 ≡ 0 = ap (λ s. get_or s 0 0) from ∙ first.1 in
    record {
      order = omega arith;
      inside = omega arith;
      below = omega arith;
      above = λ h. absurd (omega arith);
    }
