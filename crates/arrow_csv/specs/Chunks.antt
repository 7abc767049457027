-- Bytes of a field that need quotes, and double quotes. Only the crate's private contracts use these.
use Rattle.std.specs.Prelude.{◌≡◌, ◌==◌, ◌≤◌, ◌<◌, ℕ, Bool, false, List, get_or}
use Rattle.csv.specs.Writing.{default_writer, needs_byte}

-- none of the bytes from `start` up to `end` needs quotes
abbrev pub AreAllPlain : List ℕ → ℕ → ℕ → Type 0
AreAllPlain field start end = (k : ℕ) → start ≤ k → k < end → needs_byte default_writer (get_or field k 0) ≡ false

-- whether a byte is a double quote
abbrev pub is_mark : ℕ → Bool
is_mark byte = byte == 34
