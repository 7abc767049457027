-- Where the buffers of a batch lie in its body (Schema.fbs, struct "Buffer").
use Rattle.std.specs.Prelude.{◌≡◌, ◌≤◌, ◌+◌, ℕ, ℤ, pos, negsuc, ◌≤ℤ◌, ◌<ℤ◌, List, length, map, take, drop}
use Rattle.std.specs.List.{AllByRecursion}
use Rattle.arrow_types.specs.declared.node.Buffer.{Buffer}
use Rattle.arrow_layout.specs.ByteRanges.{bytes_of, IsInside}
use Rattle.arrow_layout.specs.declared.byte_range.ByteRange.{ByteRange}

-- a number that should not be negative, 0 if it is
abbrev pub count_of : ℤ → ℕ
count_of (pos n) = n
count_of (negsuc n) = 0

-- The buffer lies inside the body. The offset of an empty buffer is not checked.
pub record IsHeld (body : List ℕ) (b : Buffer) : Type 0 where
  pub length_sign : pos 0 ≤ℤ b.length
  pub offset_sign : pos 0 <ℤ b.length → pos 0 ≤ℤ b.offset
  pub inside : pos 0 <ℤ b.length → count_of b.offset + count_of b.length ≤ length body

-- its bytes
abbrev pub bytes_in : List ℕ → Buffer → List ℕ
bytes_in body b = take (count_of b.length) (drop (count_of b.offset) body)

-- the ranges are where the buffers lie
pub record AreRangesOf (body : List ℕ) (buffers : List Buffer) (ranges : List ByteRange) : Type 0 where
  pub held : AllByRecursion (IsHeld body) buffers
  pub inside : AllByRecursion (IsInside body) ranges
  pub same : map (bytes_of body) ranges ≡ map (bytes_in body) buffers
