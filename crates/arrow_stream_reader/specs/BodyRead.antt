-- Bytes of a body that are read from an input into the memory where they stay.
use Rattle.std.specs.Prelude.{◌≡◌, ◌≤◌, ℕ, List, ◌++◌, length, Option}
use Rattle.std.specs.Io.KnownBytes.{Consumes, IsAtEnd}
use Rattle.arrow_stream_reader.specs.declared.reader.Verdict.TheVariants.{Open}
use Rattle.arrow_stream_reader.specs.Front.{Entry}
use Rattle.arrow_stream_reader.specs.Stream.{ReaderView, IsReaderAt}

-- one read of an input that had these bytes gave n of them, 65,536 at most, and none only at its end
pub record OneRead (had left : Option (List ℕ)) (n : ℕ) (piece : List ℕ) : Type 0 where
  pub consumed : Consumes had left piece
  pub size : length piece ≡ n
  pub few : n ≤ 65536
  pub ended : n ≡ 0 → IsAtEnd left

-- they were added to the bytes held, which are no more than wanted
pub record ReadsInto (old : List ℕ) (target : ℕ) (had left : Option (List ℕ)) (n : ℕ) (new : List ℕ) : Type 0 where
  pub piece : List ℕ
  pub read : OneRead had left n piece
  pub added : new ≡ old ++ piece
  pub within : length new ≤ target

-- the reader has taken them after the bytes at which it was, and they complete no message; without one it is unchanged
pub record ReadsBody (old : ReaderView) (had left : Option (List ℕ)) (n : ℕ) (new : ReaderView) : Type 0 where
  pub piece : List ℕ
  pub read : OneRead had left n piece
  pub is_open : old.at.verdict ≡ Open
  pub stays_open : new.at.verdict ≡ Open
  pub none : n ≡ 0 → new ≡ old
  pub position : (t : List ℕ) (es : List Entry) → IsReaderAt old t es → IsReaderAt new (t ++ piece) es
