-- The blocks of a dictionary's segments, and the segments that contain a value.
use Rattle.std.proofs.Common.{◌≡◌, ◌<◌, ◌≤◌, ◌+◌, ℕ, zero, suc, List, [], ◌∷◌, ◌++◌, length, get_or, map, take, drop, refl, sym, ap, ◌∙◌, subst, arith, append_assoc, length-append, length-drop, inl, inr}
use Rattle.std.proofs.lemmas.Bool.{cases_lt}
use Rattle.std.proofs.lemmas.List.{append-nil, get_or_append_left, get_or-append-add, length-map, map-append}
use Rattle.std.specs.List.{AllByRecursion}
use Rattle.arrow_data.specs.Segments.{AreSame, Between, HaveStarts, IsBlock, IsPartWith, block_segments, block_starts, columns_of, joined, starts_of}
use Rattle.arrow_data.specs.declared.array.Block.{Block}
use Rattle.arrow_data.specs.declared.array.Segment.{Segment}
use Rattle.arrow_data.proofs.Segments.{first_start, length-starts_of}

-- the columns of two lists of segments, one list after the other
pub columns_both : (xs ys : List Segment) → columns_of (xs ++ ys) ≡ columns_of xs ++ columns_of ys
columns_both xs ys = map-append (λ (s : Segment). s.array.value) xs ys

-- and their starts
pub starts_both : (xs ys : List Segment) → starts_of (xs ++ ys) ≡ starts_of xs ++ starts_of ys
starts_both xs ys = map-append (λ (s : Segment). s.start) xs ys

-- the segments with those of one more block
blocks_push : (bs : List Block) (b : Block) → block_segments (bs ++ b ∷ []) ≡ block_segments bs ++ b.segments.items
blocks_push [] b = append-nil b.segments.items
blocks_push (x ∷ bs) b = ap (λ s. x.segments.items ++ s) (blocks_push bs b) ∙ sym (append_assoc x.segments.items (block_segments bs) b.segments.items)

-- the last segments may be put in a block after the others
pub closed : (bs : List Block) (b : Block) (segments : List Segment) → columns_of b.segments.items ≡ columns_of segments → starts_of b.segments.items ≡ starts_of segments
    → AreSame (block_segments (bs ++ b ∷ [])) (block_segments bs ++ segments)
closed bs b segments columns starts = record {
  columns = ap columns_of (blocks_push bs b) ∙ columns_both (block_segments bs) b.segments.items ∙ ap (λ cs. columns_of (block_segments bs) ++ cs) columns
      ∙ sym (columns_both (block_segments bs) segments);
  starts = ap starts_of (blocks_push bs b) ∙ starts_both (block_segments bs) b.segments.items ∙ ap (λ ns. starts_of (block_segments bs) ++ ns) starts
      ∙ sym (starts_both (block_segments bs) segments);
}

-- the segments of block r, between those before it and those after it
splits : (bs : List Block) (r : ℕ) (d : Block) → r < length bs → block_segments bs ≡ block_segments (take r bs) ++ ((get_or bs r d).segments.items ++ block_segments (drop (suc r) bs))
splits [] r d h = absurd (omega arith)
splits (b ∷ bs) zero d h = refl
splits (b ∷ bs) (suc r) d h =
    ap (λ s. b.segments.items ++ s) (splits bs r d (omega arith))
    ∙ sym (append_assoc b.segments.items (block_segments (take r bs)) ((get_or bs r d).segments.items ++ block_segments (drop (suc r) bs)))

-- the first start of a nonempty list of segments is also the first start of that list with others appended
first_of : (xs ys : List Segment) → 0 < length xs → get_or (starts_of (xs ++ ys)) 0 0 ≡ get_or (starts_of xs) 0 0
first_of [] ys h = absurd (omega arith)
first_of (x ∷ xs) ys h = refl

-- an index before the first of some blocks, and before the last segments, is before all of them
before_all : (bs : List Block) (last : List Segment) (i : ℕ) → AllByRecursion IsBlock bs → (0 < length bs → i < get_or (block_starts bs) 0 0) → (0 < length last → i < get_or (starts_of last) 0 0)
    → 0 < length (block_segments bs ++ last) → i < get_or (starts_of (block_segments bs ++ last)) 0 0
before_all [] last i all first past h = past h
before_all (b ∷ bs) last i all first past h =
    let whole : (b.segments.items ++ block_segments bs) ++ last ≡ b.segments.items ++ (block_segments bs ++ last) = append_assoc b.segments.items (block_segments bs) last in
    let start : get_or (starts_of ((b.segments.items ++ block_segments bs) ++ last)) 0 0 ≡ b.start =
    ap (λ xs. get_or (starts_of xs) 0 0) whole ∙ first_of b.segments.items (block_segments bs ++ last) all.0.some ∙ sym all.0.start in
    omega (arith, start, first (omega arith))

-- the same of the blocks from block n on
all_after : (n : ℕ) (bs : List Block) → AllByRecursion IsBlock bs → AllByRecursion IsBlock (drop n bs)
all_after zero bs h = h
all_after (suc n) [] h = tt
all_after (suc n) (b ∷ bs) h = all_after n bs h.1

-- the first start of the blocks from block n on is the start of block n
start_after : (n : ℕ) (bs : List Block) → get_or (block_starts (drop n bs)) 0 0 ≡ get_or (block_starts bs) n 0
start_after zero bs = refl
start_after (suc n) [] = refl
start_after (suc n) (b ∷ bs) = start_after n bs

-- block r is one of the list
block_is : (r : ℕ) (bs : List Block) (d : Block) → AllByRecursion IsBlock bs → r < length bs → IsBlock (get_or bs r d)
block_is r [] d all h = absurd (omega arith)
block_is zero (b ∷ bs) d all h = all.0
block_is (suc r) (b ∷ bs) d all h = block_is r bs d all.1 (omega arith)

-- and has its start
block_start : (r : ℕ) (bs : List Block) (d : Block) → r < length bs → get_or (block_starts bs) r 0 ≡ (get_or bs r d).start
block_start r [] d h = absurd (omega arith)
block_start zero (b ∷ bs) d h = refl
block_start (suc r) (b ∷ bs) d h = block_start r bs d (omega arith)

-- the segments of the last block that begins at or before value i, if the last segments begin after it
pub block_part : (bs : List Block) (last : List Segment) (i r : ℕ) (b : Block) → AllByRecursion IsBlock bs → b ≡ get_or bs r b → Between (block_starts bs) r (r + 1) i
    → (0 < length last → i < get_or (starts_of last) 0 0) → IsPartWith bs last i b.segments.items
block_part bs last i r b all is between past =
    let inside : r < length bs = omega (arith, between.inside, length-map bs (λ (x : Block). x.start)) in
    let own : IsBlock b = subst IsBlock (sym is) (block_is r bs b all inside) in
    let start : get_or (block_starts bs) r 0 ≡ b.start = block_start r bs b inside ∙ ap (λ (x : Block). x.start) (sym is) in
    let after : List Segment = block_segments (drop (suc r) bs) ++ last in
    let before : List Segment = block_segments (take r bs) in
    let rest : List Segment = block_segments (drop (suc r) bs) in
    let all_of : block_segments bs ≡ before ++ (b.segments.items ++ rest) = splits bs r b inside ∙ ap (λ (x : Block). before ++ (x.segments.items ++ rest)) (sym is) in
    let whole : block_segments bs ++ last ≡ before ++ (b.segments.items ++ after) =
    ap (λ xs. xs ++ last) all_of ∙ append_assoc before (b.segments.items ++ rest) last
    ∙ ap (λ xs. before ++ xs) (append_assoc b.segments.items rest last) in
    let next : 0 < length (drop (suc r) bs) → i < get_or (block_starts (drop (suc r) bs)) 0 0 =
    λ h.
    let more : r + 1 < length (block_starts bs) = omega (arith, h, length-drop (suc r) bs, length-map bs (λ (x : Block). x.start)) in
    let one : suc r ≡ r + 1 = omega arith in
    omega (arith, between.above more, start_after (suc r) bs, ap (λ n. get_or (block_starts bs) n 0) one) in
    record {
      before = before;
      after = after;
      whole = whole;
      some = own.some;
      low = omega (arith, own.start, start, between.below);
      high = before_all (drop (suc r) bs) last i (all_after (suc r) bs all) next past;
    }

-- the last segments, if they begin at or before value i
pub last_part : (bs : List Block) (last : List Segment) (i : ℕ) → 0 < length last → get_or (starts_of last) 0 0 ≤ i → IsPartWith bs last i last
last_part bs last i some low = record {
  before = block_segments bs;
  after = [];
  whole = ap (λ xs. block_segments bs ++ xs) (sym (append-nil last));
  some = some;
  low = low;
  high = λ h. absurd (omega arith);
}

-- a search among some segments begins with all of them
pub part_begins : (part : List Segment) (i : ℕ) → 0 < length part → get_or (starts_of part) 0 0 ≤ i → Between (starts_of part) 0 (length part) i
part_begins part i some low = record {
  order = some;
  inside = omega (arith, length-starts_of part);
  below = low;
  above = λ h. absurd (omega (arith, length-starts_of part));
}

-- an index found by a search among some segments is found among all
pub in_all : (before part after : List Segment) (r i : ℕ) → Between (starts_of part) r (r + 1) i → (0 < length after → i < get_or (starts_of after) 0 0)
    → Between (starts_of (before ++ (part ++ after))) (length before + r) (length before + r + 1) i
in_all before part after r i between high =
    let sb : List ℕ = starts_of before in
    let sp : List ℕ = starts_of part in
    let sa : List ℕ = starts_of after in
    let whole : starts_of (before ++ (part ++ after)) ≡ sb ++ (sp ++ sa) = starts_both before (part ++ after) ∙ ap (λ xs. sb ++ xs) (starts_both part after) in
    let lb : length sb ≡ length before = length-starts_of before in
    let lp : length sp ≡ length part = length-starts_of part in
    let la : length sa ≡ length after = length-starts_of after in
    let long : length (sb ++ (sp ++ sa)) ≡ length before + (length part + length after) = omega (arith, length-append sb (sp ++ sa), length-append sp sa, lb, lp, la) in
    let at : (k : ℕ) → get_or (sb ++ (sp ++ sa)) (length before + k) 0 ≡ get_or (sp ++ sa) k 0 =
    λ k. ap (λ n. get_or (sb ++ (sp ++ sa)) (n + k) 0) (sym lb) ∙ get_or-append-add sb (sp ++ sa) k 0 in
    let inner : (k : ℕ) → k < length sp → get_or (sp ++ sa) k 0 ≡ get_or sp k 0 = λ k h. get_or_append_left sp sa 0 k h in
    let next : length before + r + 1 < length (sb ++ (sp ++ sa)) → i < get_or (sb ++ (sp ++ sa)) (length before + r + 1) 0 =
    λ h.
    let place : length before + r + 1 ≡ length before + (r + 1) = omega arith in
    let here : get_or (sb ++ (sp ++ sa)) (length before + r + 1) 0 ≡ get_or (sp ++ sa) (r + 1) 0 = ap (λ n. get_or (sb ++ (sp ++ sa)) n 0) place ∙ at (r + 1) in
    elim (cases_lt (r + 1) (length sp)) [
      | inl l ↦ omega (arith, here, inner (r + 1) l, between.above l)
      | inr g ↦
          let end : r + 1 ≡ length sp + 0 = omega (arith, g, between.inside) in
          let first : get_or (sp ++ sa) (r + 1) 0 ≡ get_or sa 0 0 = ap (λ n. get_or (sp ++ sa) n 0) end ∙ get_or-append-add sp sa 0 0 in
          omega (arith, here, first, high (omega (arith, h, long, lp, end)))
    ] in
    subst (λ s. Between s (length before + r) (length before + r + 1) i) (sym whole) (record {
      order = omega arith;
      inside = omega (arith, long, between.inside, lp);
      below = omega (arith, at r, inner r (omega (arith, between.inside)), between.below);
      above = next;
    })

-- a segment found among some segments is one of all
pub found_in_all : (before part after : List Segment) (r : ℕ) (s : Segment) → r < length part → s ≡ get_or part r s → s ≡ get_or (before ++ (part ++ after)) (length before + r) s
found_in_all before part after r s h is = is ∙ sym (get_or-append-add before (part ++ after) r s ∙ get_or_append_left part after s r h)

-- the start of a block that was read
pub start_read : {R : Type 0} (value : R → Block) (rs : List R) (n : ℕ) (r : R) → n < length rs → r ≡ get_or rs n r → get_or (block_starts (map value rs)) n 0 ≡ (value r).start
start_read value [] n r h is = absurd (omega arith)
start_read value (x ∷ rs) zero r h is = ap (λ y. (value y).start) (sym is)
start_read value (x ∷ rs) (suc n) r h is = start_read value rs n r (omega arith) is

-- the search among blocks begins with all of them, if value i is before the last segments
pub blocks_begin : (bs : List Block) (last : List Segment) (i : ℕ) → HaveStarts (block_segments bs ++ last) → AllByRecursion IsBlock bs → i < length (joined (columns_of (block_segments bs ++ last)))
    → (0 < length last → i < get_or (starts_of last) 0 0) → Between (block_starts bs) 0 (length bs) i
blocks_begin [] last i starts all within past =
    let first = first_start 0 (columns_of last) i within in
    let some : 0 < length (starts_of last) = rw starts first.0 in
    let zeroth : get_or (starts_of last) 0 0 ≡ 0 = ap (λ ns. get_or ns 0 0) starts ∙ first.1 in
    absurd (omega (arith, past (omega (arith, some, length-starts_of last)), zeroth))
blocks_begin (b ∷ bs) last i starts all within past =
    let segments : List Segment = (b.segments.items ++ block_segments bs) ++ last in
    let first = first_start 0 (columns_of segments) i within in
    let head : get_or (starts_of segments) 0 0 ≡ get_or (starts_of b.segments.items) 0 0 =
    ap (λ xs. get_or (starts_of xs) 0 0) (append_assoc b.segments.items (block_segments bs) last) ∙ first_of b.segments.items (block_segments bs ++ last) all.0.some in
    let zeroth : b.start ≡ 0 = all.0.start ∙ sym head ∙ ap (λ ns. get_or ns 0 0) starts ∙ first.1 in
    record {
      order = omega arith;
      inside = omega (arith, length-map (b ∷ bs) (λ (x : Block). x.start));
      below = omega (arith, zeroth);
      above = λ h. absurd (omega (arith, h, length-map (b ∷ bs) (λ (x : Block). x.start)));
    }

-- one more segment after the same segments
pub more_columns : (bs bs' : List Block) (last last' : List Segment) (s : Segment) → AreSame (block_segments bs' ++ last') (block_segments bs ++ last)
    → columns_of (block_segments bs' ++ (last' ++ s ∷ [])) ≡ columns_of (block_segments bs ++ last) ++ s.array.value ∷ []
more_columns bs bs' last last' s same =
    ap columns_of (sym (append_assoc (block_segments bs') last' (s ∷ []))) ∙ columns_both (block_segments bs' ++ last') (s ∷ []) ∙ ap (λ cs. cs ++ s.array.value ∷ []) same.columns

pub more_starts : (bs bs' : List Block) (last last' : List Segment) (s : Segment) → AreSame (block_segments bs' ++ last') (block_segments bs ++ last)
    → starts_of (block_segments bs' ++ (last' ++ s ∷ [])) ≡ starts_of (block_segments bs ++ last) ++ s.start ∷ []
more_starts bs bs' last last' s same =
    ap starts_of (sym (append_assoc (block_segments bs') last' (s ∷ []))) ∙ starts_both (block_segments bs' ++ last') (s ∷ []) ∙ ap (λ ns. ns ++ s.start ∷ []) same.starts

-- one more block and no last segments after it
pub closed_whole : (bs bs' : List Block) (last last' : List Segment) → last' ≡ [] → AreSame (block_segments bs') (block_segments bs ++ last) → AreSame (block_segments bs' ++ last') (block_segments bs ++ last)
closed_whole bs bs' last last' none same =
    subst (λ xs. AreSame xs (block_segments bs ++ last)) (sym (ap (λ xs. block_segments bs' ++ xs) none ∙ append-nil (block_segments bs'))) same
