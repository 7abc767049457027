-- Lines that are written one by one.
use Rattle.std.proofs.Common.{◌≡◌, ◌≤◌, ◌+◌, ◌-◌, ℕ, zero, suc, List, [], ◌∷◌, ◌++◌, length, map, take, inl, inr, refl, sym, ap, ap₂, ◌∙◌, subst, arith, append-nil}
use Rattle.std.proofs.Math.Seq.{take-append-add, take-append_seam}
use Rattle.std.proofs.lemmas.Bool.{cases_lt}
use Rattle.std.proofs.lemmas.Grind.{flat_map-append}
use Rattle.std.proofs.lemmas.List.{take-append-le, take_all}
use Rattle.std.specs.List.{range_with_len}
use Rattle.arrow_data.specs.Batch.{Table}
use Rattle.arrow_csv.specs.Texts.{Each}
use Rattle.arrow_json.specs.Lines.{AddsLine, AreFirstLines, AreLines, IsRowJson, Row, as_row, line_of, rows_between, rows_of}

-- a relation between the elements of two pairs of lists holds between those of the joined lists
each_join : {A B : Type 0} (R : A → B → Type 0) (xs us : List A) (ys vs : List B) → Each R xs ys → Each R us vs → Each R (xs ++ us) (ys ++ vs)
each_join R [] us [] vs h k = k
each_join R [] us (y ∷ ys) vs h k = absurd h
each_join R (x ∷ xs) us [] vs h k = absurd h
each_join R (x ∷ xs) us (y ∷ ys) vs h k = (h.0, each_join R xs us ys vs h.1 k)

-- no rows give no lines
pub lines_none : AreLines [] []
lines_none = ([], tt, refl)

-- the lines of some rows, and of others after them, are those of all
pub lines_join : (rows others : List Row) (first second : List ℕ) → AreLines rows first → AreLines others second → AreLines (rows ++ others) (first ++ second)
lines_join rows others first second h k =
    (h.0 ++ k.0, each_join IsRowJson rows others h.0 k.0 h.1 k.1, ap₂ (λ a b. a ++ b) h.2 k.2 ∙ sym (flat_map-append line_of h.0 k.0))

-- all of them are the first ones
pub lines_all : (rows : List Row) (text : List ℕ) → AreLines rows text → AreFirstLines rows text
lines_all rows text h = (length rows, subst (λ rs. AreLines rs text) (sym (take_all (length rows) rows (omega arith))) h)

-- the first lines of other rows come after the lines of some
pub first_join : (rows others : List Row) (first second : List ℕ) → AreLines rows first → AreFirstLines others second → AreFirstLines (rows ++ others) (first ++ second)
first_join rows others first second h k =
    (length rows + k.0, subst (λ rs. AreLines rs (first ++ second)) (sym (take-append-add rows others k.0)) (lines_join rows (take k.0 others) first second h k.1))

-- the first lines of some rows are also first lines of more rows
pub first_longer : (rows others : List Row) (text : List ℕ) → AreFirstLines rows text → AreFirstLines (rows ++ others) text
first_longer rows others text h = elim (cases_lt (length rows) h.0) [
  | inl all ↦
      let same : take (length rows) (rows ++ others) ≡ take h.0 rows = take-append_seam rows others ∙ sym (take_all h.0 rows (omega (arith, all))) in
      (length rows, subst (λ rs. AreLines rs text) (sym same) h.1)
  | inr within ↦ (h.0, subst (λ rs. AreLines rs text) (sym (take-append-le h.0 rows others within)) h.1)
]

-- ---- the rows of a batch

range_join : (a n m : ℕ) → range_with_len a (n + m) ≡ range_with_len a n ++ range_with_len (a + n) m
range_join a zero m = let place : a ≡ a + 0 = omega arith in let count : 0 + m ≡ m = omega arith in (λ i. range_with_len (place i) (count i))
range_join a (suc n) m =
    let place : (a + 1) + n ≡ a + suc n = omega arith in
    let count : suc n + m ≡ suc (n + m) = omega arith in
    ap (range_with_len a) count ∙ ap (λ ks. a ∷ ks) (range_join (a + 1) n m ∙ ap (λ k. range_with_len (a + 1) n ++ range_with_len k m) place)

map_join : (batch : Table) (xs ys : List ℕ) → map (as_row batch) (xs ++ ys) ≡ map (as_row batch) xs ++ map (as_row batch) ys
map_join batch [] ys = refl
map_join batch (x ∷ xs) ys = ap (λ rs. as_row batch x ∷ rs) (map_join batch xs ys)

-- the rows up to an index and those from it on are all rows
pub rows_join : (batch : Table) (start mid end : ℕ) → start ≤ mid → mid ≤ end → rows_between batch start end ≡ rows_between batch start mid ++ rows_between batch mid end
rows_join batch start mid end low high =
    let count : end - start ≡ (mid - start) + (end - mid) = omega (arith, low, high) in
    let place : start + (mid - start) ≡ mid = omega (arith, low) in
    ap (map (as_row batch)) (ap (range_with_len start) count ∙ range_join start (mid - start) (end - mid) ∙ ap (λ k. range_with_len start (mid - start) ++ range_with_len k (end - mid)) place)
    ∙ map_join batch (range_with_len start (mid - start)) (range_with_len mid (end - mid))

-- no row lies between an index and itself
pub rows_empty : (batch : Table) (start : ℕ) → rows_between batch start start ≡ []
rows_empty batch start = let none : start - start ≡ 0 = omega arith in ap (λ n. map (as_row batch) (range_with_len start n)) none

-- one row lies between an index and the next
rows_one : (batch : Table) (i : ℕ) → rows_between batch i (i + 1) ≡ as_row batch i ∷ []
rows_one batch i = let one : i + 1 - i ≡ 1 = omega arith in ap (λ n. map (as_row batch) (range_with_len i n)) one

-- the rows of a single batch
pub rows_single : (batch : Table) → rows_of (batch ∷ []) ≡ rows_between batch 0 batch.rows
rows_single batch = append-nil (rows_between batch 0 batch.rows)

-- the rows of batches after others
pub rows_append : (batches others : List Table) → rows_of (batches ++ others) ≡ rows_of batches ++ rows_of others
rows_append batches others = flat_map-append (λ (batch : Table). rows_between batch 0 batch.rows) batches others

-- before the first row there is no line
pub between_none : (batch : Table) (start : ℕ) → AreLines (rows_between batch start start) []
between_none batch start = subst (λ rs. AreLines rs []) (sym (rows_empty batch start)) lines_none

-- one more row
pub between_more : (batch : Table) (start i : ℕ) (old new : List ℕ) → start ≤ i → AreLines (rows_between batch start i) old → AddsLine (as_row batch i) old new → AreLines (rows_between batch start (i + 1)) new
between_more batch start i old new low written line =
    let json = line.0 in
    let own : AreLines (as_row batch i ∷ []) (line_of json) = (json ∷ [], (line.1, tt), sym (append-nil (line_of json))) in
    let all = lines_join (rows_between batch start i) (as_row batch i ∷ []) old (line_of json) written own in
    let rows : rows_between batch start (i + 1) ≡ rows_between batch start i ++ as_row batch i ∷ [] = rows_join batch start i (i + 1) low (omega arith) ∙ ap (λ rs. rows_between batch start i ++ rs) (rows_one batch i) in
    subst (λ rs. AreLines rs new) (sym rows) (subst (AreLines (rows_between batch start i ++ as_row batch i ∷ [])) (sym line.2) all)
