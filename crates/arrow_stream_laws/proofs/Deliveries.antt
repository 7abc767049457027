-- What a prefix of the bytes of a connection is read as.
use Rattle.std.proofs.Common.{Some, zero, suc, ◌≡◌, ℕ, ◌+◌, ◌-◌, ◌<◌, ◌≤◌, ◌⊎◌, List, [], ◌∷◌, ◌++◌, length, take, drop, map, refl, sym, ap, ◌∙◌, subst, arith, inl, inr, Bool, true, is_some, length-append, length-take, add-zero}
use Rattle.std.specs.Prelude.{min}
use Rattle.std.proofs.lemmas.List.{take-append-le, append-nil, map-append, take_all, take_min}
use Rattle.std.proofs.Math.Seq.{take-append-add, drop-append_seam}
use Rattle.std.proofs.Math.ListN.{drop_of_length-le}
use Rattle.std.proofs.lemmas.Bool.{cases_lt}
use Rattle.arrow_types.specs.Limits.{LimitNumbers}
use Rattle.arrow_types.specs.Notes.{SchemaShape}
use Rattle.arrow_data.specs.Batch.{Table}
use Rattle.arrow_stream_reader.specs.declared.reader.Verdict.{Verdict}
use Rattle.arrow_stream_reader.specs.declared.reader.Verdict.TheVariants.{Open, Done}
use Rattle.arrow_stream_reader.specs.Frame.{First, marker, short_prefix}
use Rattle.arrow_stream_reader.specs.Front.{FrontOf, rests, closes}
use Rattle.arrow_stream_reader.specs.State.{StreamState, ended, nothing_yet}
use Rattle.arrow_stream_laws.specs.Plan.{lists_sent}
use Rattle.arrow_stream_laws.specs.Sizes.{Options}
use Rattle.arrow_stream_laws.specs.Rows.{Rows, rows_of}
use Rattle.arrow_stream_reader.specs.Tables.{table_in, tables_of}
use Rattle.arrow_stream_laws.specs.Frames.{Frame, frames_bytes, left_by, lying, IsStream}
use Rattle.arrow_stream_laws.proofs.Chains.{Chain, rows_in, entries_from}
use Rattle.arrow_stream_laws.specs.Text.{joined, lying_parts, later_parts, marker_frame, Text, begins, adds, Written, unfinished, finished}
use Rattle.arrow_stream_laws.specs.Laws.{Delivered}
use Rattle.arrow_stream_laws.proofs.Chains.{lying-step, lying-stop, take_seam, chain_begins, chain_then, frames_bytes-append, left_by-append}
use Rattle.arrow_stream_laws.proofs.Lyings.{lying_past, lying_within, lying_all, parts-step, parts-stop, parts_past, parts_within, parts_count, no_rows_lying, part_short}
use Rattle.arrow_stream_laws.proofs.Texts.{part_rows, text_is, text_part, joined_more, rows_in-append, marker_first}

-- THE TABLES OF A PREFIX

take_at_length : (xs ys : List Rows) (n k : ℕ) → n ≡ length xs + k → take n (xs ++ ys) ≡ xs ++ take k ys
take_at_length xs ys n k e = ap (λ i. take i (xs ++ ys)) e ∙ take-append-add xs ys k

abbrev nothing : List Rows
nothing = []

take_no_rows : (n : ℕ) → take n nothing ≡ nothing
take_no_rows zero = refl
take_no_rows (suc n) = refl

take_one : (n : ℕ) (x : Rows) → take (suc n) (x ∷ []) ≡ x ∷ []
take_one n x = ap (λ r. x ∷ r) (take_no_rows n)

rows_more : (batches : List Table) (raw : Table) → map rows_of (batches ++ raw ∷ []) ≡ map rows_of batches ++ rows_of raw ∷ []
rows_more batches raw = map-append rows_of batches (raw ∷ [])

rows_count : (batches : List Table) → length (map rows_of batches) ≡ length batches
rows_count [] = refl
rows_count (b ∷ bs) = ap suc (rows_count bs)

module _ {l : LimitNumbers} {o : Options} {shape : SchemaShape} where
  pub text_rows : {parts : List (List ℕ)} {batches : List Table} {frames : List Frame} (n : ℕ) → Text l o shape parts batches frames → rows_in (lying n frames) ≡ take (later_parts parts n) (map rows_of batches)
  text_rows n (begins b known a f) =
      elim (cases_lt n (length b)) [
        | inl k ↦ ap rows_in (lying-stop n _ [] k) ∙ sym (take_no_rows (later_parts (b ∷ []) n))
        | inr k ↦ ap rows_in (lying-step n _ [] k) ∙ sym (take_no_rows (later_parts (b ∷ []) n))
      ]
  text_rows n (adds parts batches frames raw fs t y) =
      let x = text_is t in
      let q = text_part {o = o} parts batches frames raw fs x y in
      let place : length (frames_bytes frames) ≡ length (joined parts) = ap length x.bytes in
      elim (cases_lt n (length (joined parts))) [
        | inl k ↦
            let few = parts_count n parts in
            let whole : later_parts (parts ++ frames_bytes fs ∷ []) n ≡ later_parts parts n = ap (λ i. i - 1) (parts_within n parts (frames_bytes fs ∷ []) k) in
            ap rows_in (lying_within n frames fs (omega arith)) ∙ text_rows n t
            ∙ sym (take-append-le (later_parts parts n) (map rows_of batches) (rows_of raw ∷ []) (omega (arith, x.count, rows_count batches)))
            ∙ ap (λ r. take (later_parts parts n) r) (sym (rows_more batches raw)) ∙ ap (λ i. take i (map rows_of (batches ++ raw ∷ []))) (sym whole)
        | inr k ↦
            let m = n - length (frames_bytes frames) in
            let same : m ≡ n - length (joined parts) = omega arith in
            let left = ap rows_in (lying_past n frames fs (omega arith)) ∙ rows_in-append frames (lying m fs) ∙ ap (λ r. r ++ rows_in (lying m fs)) x.rows in
            let past = parts_past n parts (frames_bytes fs ∷ []) k ∙ ap (λ i. length parts + lying_parts i (frames_bytes fs ∷ [])) (sym same) in
            elim (cases_lt m (length (frames_bytes fs))) [
              | inl i ↦
                  let none : rows_in (lying m fs) ≡ [] = ap (λ r. rows_in (lying m r)) q.frames ∙ part_short m q.updated q.last q.no_tables (omega (arith, ap (λ r. length (frames_bytes r)) q.frames)) in
                  let count : later_parts (parts ++ frames_bytes fs ∷ []) n ≡ length (map rows_of batches) + 0 = omega (arith, past, parts-stop m (frames_bytes fs) [] i, x.count, rows_count batches) in
                  left ∙ ap (λ r. map rows_of batches ++ r) none ∙ sym (take_at_length (map rows_of batches) (rows_of raw ∷ []) (later_parts (parts ++ frames_bytes fs ∷ []) n) 0 count) ∙ ap (λ r. take (later_parts (parts ++ frames_bytes fs ∷ []) n) r) (sym (rows_more batches raw))
              | inr i ↦
                  let all : rows_in (lying m fs) ≡ rows_of raw ∷ [] = ap rows_in (lying_all m fs i) ∙ part_rows q in
                  let count : later_parts (parts ++ frames_bytes fs ∷ []) n ≡ length (map rows_of batches) + 1 = omega (arith, past, parts-step m (frames_bytes fs) [] i, x.count, rows_count batches) in
                  left ∙ ap (λ r. map rows_of batches ++ r) (all ∙ sym (take_one 0 (rows_of raw))) ∙ sym (take_at_length (map rows_of batches) (rows_of raw ∷ []) (later_parts (parts ++ frames_bytes fs ∷ []) n) 1 count) ∙ ap (λ r. take (later_parts (parts ++ frames_bytes fs ∷ []) n) r) (sym (rows_more batches raw))
            ]
      ]

-- counting no further than there are batches
first_rows : (n : ℕ) (batches : List Table) → take (min n (length batches)) (map rows_of batches) ≡ take n (map rows_of batches)
first_rows n batches = ap (λ m. take (min n m) (map rows_of batches)) (sym (rows_count batches)) ∙ take_min n (map rows_of batches)

-- WHAT A PREFIX IS READ AS

-- the first n bytes of a connection are read as the frames that lie in them
pub record ReadAs (l : LimitNumbers) (b : List ℕ) (xs : List Frame) : Type 0 where
  pub verdict : Verdict
  pub ends : (verdict ≡ Open) ⊎ (verdict ≡ Done)
  pub done : verdict ≡ Done → (drop (length (frames_bytes xs)) b ≡ []) × (is_some (left_by nothing_yet xs).schema ≡ true)
  pub front : FrontOf l b (entries_from 0 xs) (record { state = left_by nothing_yet xs; place = length (frames_bytes xs); rest = drop (length (frames_bytes xs)) b; verdict = verdict })

read_at : (l : LimitNumbers) (b c : List ℕ) (xs ys : List Frame) → b ≡ c → xs ≡ ys → ReadAs l b xs → ReadAs l c ys
read_at l b c xs ys e f x = subst (λ r. ReadAs l r ys) e (subst (λ r. ReadAs l b r) f x)

chain_read : (l : LimitNumbers) (fs : List Frame) (n : ℕ) → Chain l nothing_yet 0 fs → ReadAs l (take n (frames_bytes fs)) (lying n fs)
chain_read l fs n c =
    let e : 0 + length (frames_bytes (lying n fs)) ≡ length (frames_bytes (lying n fs)) = omega arith in
    record {
      verdict = Open;
      ends = inl refl;
      done = λ q. absurd (cc);
      front = subst (λ p. FrontOf l (take n (frames_bytes fs)) (entries_from 0 (lying n fs)) (record { state = left_by nothing_yet (lying n fs); place = p; rest = drop (length (frames_bytes (lying n fs))) (take n (frames_bytes fs)); verdict = Open })) e
          (chain_begins l nothing_yet 0 fs n c);
    }

entries_from-append : (p : ℕ) (xs ys : List Frame) → entries_from p (xs ++ ys) ≡ entries_from p xs ++ entries_from (p + length (frames_bytes xs)) ys
entries_from-append p [] ys = ap (λ k. entries_from k ys) (sym (add-zero p))
entries_from-append p (x ∷ xs) ys =
    let q : p + length x.bytes + length (frames_bytes xs) ≡ p + length (x.bytes ++ frames_bytes xs) = omega (arith, length-append x.bytes (frames_bytes xs)) in
    ap (λ r. record { given = x.gives; end = p + length x.bytes } ∷ r) (entries_from-append (p + length x.bytes) xs ys ∙ ap (λ k. entries_from (p + length x.bytes) xs ++ entries_from k ys) q)

-- a complete chain, and then an end marker
closed_read : (l : LimitNumbers) (fs : List Frame) (b : List ℕ) → Chain l nothing_yet 0 fs → First l (left_by nothing_yet fs) (length (frames_bytes fs)) b marker → length b ≡ 8 → is_some (left_by nothing_yet fs).schema ≡ true →
    ReadAs l (frames_bytes fs ++ b) (fs ++ marker_frame (left_by nothing_yet fs) b ∷ [])
closed_read l fs b c m two seen =
    let last = marker_frame (left_by nothing_yet fs) b in
    let p = length (frames_bytes fs) in
    let start : p ≡ 0 + p = omega arith in
    let m' = subst (λ k. First l (left_by nothing_yet fs) k b marker) start m in
    let f = chain_then l nothing_yet 0 fs b c (closes m') in
    let bytes : frames_bytes (fs ++ last ∷ []) ≡ frames_bytes fs ++ b = frames_bytes-append fs (last ∷ []) ∙ ap (λ r. frames_bytes fs ++ r) (append-nil b) in
    let end : 0 + p + 8 ≡ length (frames_bytes (fs ++ last ∷ [])) = omega (arith, ap length bytes, length-append (frames_bytes fs) b) in
    let es : entries_from 0 fs ++ record { given = ended; end = 0 + p + 8 } ∷ [] ≡ entries_from 0 (fs ++ last ∷ []) =
    ap (λ k. entries_from 0 fs ++ record { given = ended; end = 0 + p + k } ∷ []) (sym two) ∙ sym (entries_from-append 0 fs (last ∷ [])) in
    let state : left_by nothing_yet fs ≡ left_by nothing_yet (fs ++ last ∷ []) = sym (left_by-append nothing_yet fs (last ∷ [])) in
    let rest : drop 8 b ≡ drop (length (frames_bytes (fs ++ last ∷ []))) (frames_bytes fs ++ b) =
    drop_of_length-le b {i = 8} (omega arith) ∙ sym (drop_of_length-le (frames_bytes fs ++ b) {i = length (frames_bytes (fs ++ last ∷ []))} (omega (arith, ap length bytes))) in
    let f1 = subst (λ r. FrontOf l (frames_bytes fs ++ b) r (record { state = left_by nothing_yet fs; place = 0 + p + 8; rest = drop 8 b; verdict = Done })) es f in
    let f2 = subst (λ r. FrontOf l (frames_bytes fs ++ b) (entries_from 0 (fs ++ last ∷ [])) (record { state = r; place = 0 + p + 8; rest = drop 8 b; verdict = Done })) state f1 in
    let f3 = subst (λ r. FrontOf l (frames_bytes fs ++ b) (entries_from 0 (fs ++ last ∷ [])) (record { state = left_by nothing_yet (fs ++ last ∷ []); place = r; rest = drop 8 b; verdict = Done })) end f2 in
    record {
      verdict = Done;
      ends = inr refl;
      done = λ q. (sym rest ∙ drop_of_length-le b {i = 8} (omega arith), ap (λ (z : StreamState). is_some z.schema) (sym state) ∙ seen);
      front = subst (λ r. FrontOf l (frames_bytes fs ++ b) (entries_from 0 (fs ++ last ∷ [])) (record { state = left_by nothing_yet (fs ++ last ∷ []); place = length (frames_bytes (fs ++ last ∷ [])); rest = r; verdict = Done })) rest f3;
    }

-- a complete chain, and then less than an end marker
open_read : (l : LimitNumbers) (fs : List Frame) (b : List ℕ) → Chain l nothing_yet 0 fs → length b < 8 → ReadAs l (frames_bytes fs ++ b) fs
open_read l fs b c short =
    let p = length (frames_bytes fs) in
    let f = chain_then l nothing_yet 0 fs b c (rests (short_prefix short)) in
    let end : 0 + p ≡ p = omega arith in
    let rest : b ≡ drop p (frames_bytes fs ++ b) = sym (drop-append_seam (frames_bytes fs) b) in
    let f1 = subst (λ r. FrontOf l (frames_bytes fs ++ b) r (record { state = left_by nothing_yet fs; place = 0 + p; rest = b; verdict = Open })) (append-nil (entries_from 0 fs)) f in
    let f2 = subst (λ r. FrontOf l (frames_bytes fs ++ b) (entries_from 0 fs) (record { state = left_by nothing_yet fs; place = r; rest = b; verdict = Open })) end f1 in
    record {
      verdict = Open;
      ends = inl refl;
      done = λ q. absurd (cc);
      front = subst (λ r. FrontOf l (frames_bytes fs ++ b) (entries_from 0 fs) (record { state = left_by nothing_yet fs; place = p; rest = r; verdict = Open })) rest f2;
    }

entries_rows : (p : ℕ) (xs : List Frame) → map rows_of (tables_of (entries_from p xs)) ≡ rows_in xs
entries_rows p [] = refl
entries_rows p (x ∷ xs) =
    map-append rows_of (table_in x.gives) (tables_of (entries_from (p + length x.bytes) xs))
    ∙ ap (λ r. map rows_of (table_in x.gives) ++ r) (entries_rows (p + length x.bytes) xs)

module _ {l : LimitNumbers} {o : Options} {shape : SchemaShape} where
  pub written_read : {finish : Bool} {parts : List (List ℕ)} {batches : List Table} {frames : List Frame} (n : ℕ) → Written l o shape finish parts batches frames → ReadAs l (take n (joined parts)) (lying n frames)
  written_read n (unfinished parts batches frames t) =
      let x = text_is t in read_at l _ _ _ _ (ap (take n) x.bytes) refl (chain_read l frames n x.chain)
  written_read n (finished parts batches frames b t h m) =
      let x = text_is t in
      let last = marker_frame (left_by nothing_yet frames) b in
      let all : joined (parts ++ b ∷ []) ≡ frames_bytes frames ++ b = joined_more parts b ∙ ap (λ r. r ++ b) (sym x.bytes) in
      let end : length (joined parts) ≡ length (frames_bytes frames) = sym (ap length x.bytes) in
      let first = subst (λ p. First l (left_by nothing_yet frames) p b marker) end (marker_first l shape x.lists (left_by nothing_yet frames) (length (joined parts)) b x.state m h) in
      let two = m.eight in
      elim (cases_lt n (length (frames_bytes frames))) [
        | inl k ↦ read_at l _ _ _ _ (sym (take-append-le n (frames_bytes frames) b (omega arith)) ∙ ap (take n) (sym all)) (sym (lying_within n frames (last ∷ []) k)) (chain_read l frames n x.chain)
        | inr k ↦
            let i = n - length (frames_bytes frames) in
            let cut : frames_bytes frames ++ take i b ≡ take n (joined (parts ++ b ∷ [])) = sym (take_seam n (frames_bytes frames) b k) ∙ ap (take n) (sym all) in
            let len : length (take i b) ≤ i = simp length-take (omega arith) in
            elim (cases_lt i 8) [
              | inl q ↦ read_at l _ _ _ _ cut (sym (append-nil frames) ∙ ap (λ r. frames ++ r) (sym (lying-stop i last [] (omega arith))) ∙ sym (lying_past n frames (last ∷ []) k)) (open_read l frames (take i b) x.chain (omega arith))
              | inr q ↦ read_at l _ _ _ _ (ap (λ r. frames_bytes frames ++ r) (sym (take_all i b (omega arith))) ∙ cut) (ap (λ r. frames ++ r) (sym (lying-step i last [] (omega arith))) ∙ sym (lying_past n frames (last ∷ []) k)) (closed_read l frames b x.chain first two (ap (λ (z : StreamState). is_some z.schema) x.state))
            ]
      ]

  pub written_rows : {finish : Bool} {parts : List (List ℕ)} {batches : List Table} {frames : List Frame} (n : ℕ) → Written l o shape finish parts batches frames → rows_in (lying n frames) ≡ take (later_parts parts n) (map rows_of batches)
  written_rows n (unfinished parts batches frames t) = text_rows n t
  written_rows n (finished parts batches frames b t h m) =
      let x = text_is t in
      let last = marker_frame (left_by nothing_yet frames) b in
      let end : length (joined parts) ≡ length (frames_bytes frames) = sym (ap length x.bytes) in
      elim (cases_lt n (length (joined parts))) [
        | inl k ↦
            ap rows_in (lying_within n frames (last ∷ []) (omega arith)) ∙ text_rows n t
            ∙ ap (λ i. take (i - 1) (map rows_of batches)) (sym (parts_within n parts (b ∷ []) k))
        | inr k ↦
            let i = n - length (frames_bytes frames) in
            let past = parts_past n parts (b ∷ []) k in
            ap rows_in (lying_past n frames (last ∷ []) (omega arith)) ∙ rows_in-append frames (lying i (last ∷ []))
            ∙ ap (λ r. rows_in frames ++ r) (no_rows_lying i (last ∷ []) (refl, tt)) ∙ append-nil (rows_in frames) ∙ x.rows
            ∙ sym (take_all (later_parts (parts ++ b ∷ []) n) (map rows_of batches) (omega (arith, past, x.count, rows_count batches)))
      ]

  -- what a reader has of the first n bytes of a connection
  pub delivered : {finish : Bool} {parts : List (List ℕ)} {batches : List Table} {frames : List Frame} (n : ℕ) → Written l o shape finish parts batches frames → Delivered l parts batches frames n
  delivered {parts = parts} {batches = batches} {frames = frames} n w =
      let r = written_read n w in
      record {
        entries = entries_from 0 (lying n frames);
        verdict = r.verdict;
        front = r.front;
        ends = r.ends;
        done = r.done;
        rows = entries_rows 0 (lying n frames) ∙ written_rows n w ∙ sym (first_rows (later_parts parts n) batches);
      }

-- what the frames of a connection as it ends are
pub record WrittenIs (o : Options) (shape : SchemaShape) (parts : List (List ℕ)) (batches : List Table) (frames : List Frame) : Type 0 where
  pub bytes : frames_bytes frames ≡ joined parts
  pub rows : rows_in frames ≡ map rows_of batches
  pub schema : (left_by nothing_yet frames).schema ≡ Some shape
  pub dictionaries : (left_by nothing_yet frames).dictionaries ≡ lists_sent o.updates shape.fields [] batches

module _ {l : LimitNumbers} {o : Options} {shape : SchemaShape} where
  pub written_is : {finish : Bool} {parts : List (List ℕ)} {batches : List Table} {frames : List Frame} → Written l o shape finish parts batches frames → WrittenIs o shape parts batches frames
  written_is (unfinished parts batches frames t) =
      let x = text_is t in record { bytes = x.bytes; rows = x.rows; schema = ap (λ (s : StreamState). s.schema) x.state; dictionaries = ap (λ (s : StreamState). s.dictionaries) x.state ∙ x.sent }
  written_is (finished parts batches frames b t h m) =
      let x = text_is t in
      let last = marker_frame (left_by nothing_yet frames) b in
      record {
        bytes = frames_bytes-append frames (last ∷ []) ∙ ap (λ r. r ++ (b ++ [])) x.bytes ∙ ap (λ r. joined parts ++ r) (append-nil b) ∙ sym (joined_more parts b);
        rows = rows_in-append frames (last ∷ []) ∙ append-nil (rows_in frames) ∙ x.rows;
        schema = ap (λ (s : StreamState). s.schema) (left_by-append nothing_yet frames (last ∷ []) ∙ x.state);
        dictionaries = ap (λ (s : StreamState). s.dictionaries) (left_by-append nothing_yet frames (last ∷ []) ∙ x.state) ∙ x.sent;
      }

  -- if all bytes lie in the first n, so do all batches
  pub whole_rows : {finish : Bool} {parts : List (List ℕ)} {batches : List Table} {frames : List Frame} (n : ℕ) → Written l o shape finish parts batches frames → length (joined parts) ≤ n
      → take (later_parts parts n) (map rows_of batches) ≡ map rows_of batches
  whole_rows {frames = frames} n w h =
      let x = written_is w in
      sym (written_rows n w) ∙ ap rows_in (lying_all n frames (omega (arith, ap length x.bytes))) ∙ x.rows

  -- the bytes of a connection are a stream
  pub text_stream : {finish : Bool} {parts : List (List ℕ)} {batches : List Table} {frames : List Frame} → Written l o shape finish parts batches frames
      → IsStream l (joined parts) shape (map rows_of batches) (lists_sent o.updates shape.fields [] batches)
  text_stream {parts = parts} {batches = batches} {frames = frames} w =
      let x = written_is w in
      let n = length (joined parts) in
      let r = read_at l (take n (joined parts)) (joined parts) (lying n frames) frames (take_all n (joined parts) (omega arith)) (lying_all n frames (omega (arith, ap length x.bytes))) (written_read n w) in
      record {
        entries = entries_from 0 frames;
        snapshot = record { state = left_by nothing_yet frames; place = length (frames_bytes frames); rest = drop (length (frames_bytes frames)) (joined parts); verdict = r.verdict };
        front = r.front;
        ends = r.ends;
        nothing_left = drop_of_length-le (joined parts) {i = length (frames_bytes frames)} (omega (arith, ap length x.bytes));
        place = ap length x.bytes;
        schema = x.schema;
        rows = entries_rows 0 frames ∙ x.rows;
        dictionaries = x.dictionaries;
      }
