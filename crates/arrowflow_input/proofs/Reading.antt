-- How far an input is read until its stream is decided.
use Rattle.std.proofs.Common.{◌≡◌, ℕ, ◌+◌, ◌-◌, ◌^◌, ◌<◌, ◌≤◌, List, [], ◌++◌, length, take, refl, sym, ap, arith, append-nil, length-append, length-drop}
use Rattle.arrow_types.specs.Limits.{LimitNumbers}
use Rattle.arrow_stream_reader.specs.declared.reader.Verdict.TheVariants.{Open}
use Rattle.arrow_stream_reader.specs.Frame.{Outcome, First, whole, waits, short_prefix, short_metadata, short_body, bad_prefix, bad_metadata, bad_body, end_marker, message_comes}
use Rattle.arrow_stream_reader.specs.Front.{Entry, Snapshot, Front, rests, fails, closes, goes_on}
use Rattle.arrow_stream_reader.specs.State.{StreamState, Given}
use Rattle.arrow_stream_reader.specs.Stream.{ReaderView, IsReaderAt}
use Rattle.arrow_stream_reader.proofs.Firsts.{First-within, whole_says}
use Rattle.arrow_stream_reader.proofs.Fronts.{front_place}
use Rattle.arrow_stream_reader.proofs.Decoding.{size_small, frame_small}
use Rattle.arrowflow_input.specs.Reads.{IsReadWhile}

-- an incomplete message ends within eight bytes of the last offset
waits_near : {l : LimitNumbers} {s : StreamState} {p : ℕ} {b : List ℕ} {o : Outcome} → First l s p b o → o ≡ waits → p ≤ 2 ^ 62 → p + length b ≤ 2 ^ 62 + 8
waits_near (short_prefix h) e n = omega (arith, h, n)
waits_near (short_metadata h i) e n = let w = size_small h in omega (arith, i, w.1)
waits_near (short_body h i) e n = let w = frame_small h in omega (arith, i, w.2)
waits_near (bad_prefix h) e n = absurd (cc)
waits_near (bad_metadata h) e n = absurd (cc)
waits_near (bad_body h) e n = absurd (cc)
waits_near (end_marker h) e n = absurd (cc)
waits_near (message_comes h) e n = absurd (cc)

-- a complete message ends by the last offset
whole_near : {l : LimitNumbers} {s : StreamState} {p : ℕ} {b : List ℕ} {o : Outcome} → First l s p b o → (n : ℕ) (s' : StreamState) (g : Given) → o ≡ whole n s' g → p + n ≤ 2 ^ 62
whole_near first n s' g e =
    let frame = whole_says first n s' g e in
    let w = frame_small frame.body.metadata in
    omega (arith, w.2, frame.ends)

-- so does a stream that goes on
open_near : {l : LimitNumbers} {s : StreamState} {p : ℕ} {b : List ℕ} {es : List Entry} {e : Snapshot} → Front l s p b es e → e.verdict ≡ Open → p ≤ 2 ^ 62 → p + length b ≤ 2 ^ 62 + 8
open_near (rests x) o n = waits_near x refl n
open_near (fails x) o n = absurd (cc)
open_near (closes x) o n = absurd (cc)
open_near {p = p} {b = b} (goes_on {n = m} {s' = s'} {g = g} x xs) o n =
    let i = open_near xs o (whole_near x m s' g refl) in
    omega (arith, i, length-drop m b, First-within x)

-- the number of bytes of its stream that a reader has taken, if the stream goes on
abbrev pub reached : ReaderView → ℕ
reached r = r.at.place + length r.at.rest

pub reached_is : (r : ReaderView) (t : List ℕ) (es : List Entry) → IsReaderAt r t es → r.at.verdict ≡ Open → reached r ≡ length t
reached_is r t es s o = omega (arith, ap length (s.held o), front_place s.front)

-- with each piece fewer bytes are left that a stream can have
pub less_left : (old new : ReaderView) (t piece : List ℕ) (es fs : List Entry) → IsReaderAt old t es → old.at.verdict ≡ Open → IsReaderAt new (t ++ piece) fs → new.at.verdict ≡ Open → 0 < length piece
    → 2 ^ 62 + 9 - reached new < 2 ^ 62 + 9 - reached old
less_left old new t piece es fs s o s' o' some =
    let near : 0 + length (t ++ piece) ≤ 2 ^ 62 + 8 = open_near s'.front o' (omega arith) in
    omega (arith, near, reached_is old t es s o, reached_is new (t ++ piece) fs s' o', length-append t piece, some)

-- a read that does not report the end gave bytes
pub piece_some : (n : ℕ) (room : List ℕ) → (n ≡ 0 → ⊥) → (n ≤ length room) × (n ≡ length (take n room)) → 0 < length (take n room)
piece_some n room some within = omega (arith, some, within.1)

-- bytes that call for more were read so, if no piece was read after them
pub read_all : (P : List ℕ → Type 0) (bytes : List ℕ) → P bytes → IsReadWhile P bytes
read_all P bytes p = record { before = bytes; piece = []; joined = sym (append-nil bytes); size = omega arith; needing = p }

-- and so were they with one more piece after them
pub read_last : (P : List ℕ → Type 0) (bytes : List ℕ) (n : ℕ) (room : List ℕ) → length room ≡ 65536 → (n ≤ length room) × (n ≡ length (take n room)) → P bytes → IsReadWhile P (bytes ++ take n room)
read_last P bytes n room size within p = record { before = bytes; piece = take n room; joined = refl; size = omega (arith, size, within.0, within.1); needing = p }
