-- Ranges of a body, and the bytes in them.
use Rattle.std.specs.Prelude.{◌≤◌, ◌<◌, ℕ, List, length, get_or, slice_range}
use Rattle.arrow_layout.specs.declared.byte_range.ByteRange.{ByteRange}

-- the bytes of a range of the body
abbrev pub bytes_of : List ℕ → ByteRange → List ℕ
bytes_of body r = slice_range body r.start r.end

-- the range lies inside the body
abbrev pub IsInside : List ℕ → ByteRange → Type 0
IsInside body r = (r.start ≤ r.end) × (r.end ≤ length body)

-- each of the numbers is a byte
abbrev pub AreBytes : List ℕ → Type 0
AreBytes body = (i : ℕ) → get_or body i 0 < 256
