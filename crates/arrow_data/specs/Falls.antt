-- Each array inside another, and each dictionary of an array, is smaller.
use Rattle.std.specs.Prelude.{◌≤◌, ◌+◌, ◌*◌, ℕ, List, [], ◌∷◌, ◌++◌, map, max, Option, None, Some}
use Rattle.std.proofs.Common.{arith, ap}
use Rattle.std.specs.List.{AllByRecursion}
use denote.Param.Weighed.{most}
use Rattle.arrow_types.specs.Field.{FieldTree, none, more, TypeShape, levels}
use Rattle.arrow_types.specs.declared.field.Encoding.{Encoding}
use Rattle.arrow_data.specs.Column.{Column, AreOf, column_size, index_levels}
use Rattle.arrow_data.specs.Node.{AreRanges}
use Rattle.arrow_data.specs.Segments.{block_segments, columns_of, IsSegment}
use Rattle.arrow_data.specs.declared.array.Ranges.{Ranges}
use Rattle.arrow_data.specs.declared.array.Ranges.TheVariants as ranges
use Rattle.arrow_data.specs.declared.array.Array.TheDeep.{deep-Block, deep-Ranges, deep-Segment}
use Rattle.arrow_data.specs.declared.array.Block.{Block}
use Rattle.arrow_data.specs.declared.array.Segment.{Segment}

-- a dictionary adds two steps at most
index_levels-le : (e : Option Encoding) → index_levels e ≤ 2
index_levels-le None = omega arith
index_levels-le (Some e) = omega arith

-- the arrays of fields are lower than the array that has these fields as its children
pub most_le-levels : (fields : FieldTree) (cs : List Column) → AreOf fields cs → most (λ c. column_size c + 1) cs ≤ 3 * levels fields
most_le-levels none [] h = omega arith
most_le-levels none (c ∷ cs) h = absurd h
most_le-levels (more x b rest) [] h = absurd h
most_le-levels (more x b rest) (c ∷ cs) h = omega (arith, ap (λ (t : TypeShape). levels t.children) h.0, most_le-levels rest cs h.2, index_levels-le c.encoding)

-- the arrays and the dictionary in an array's ranges are lower than the array
pub depth_le-levels : (len : ℕ) (t : TypeShape) (e : Option Encoding) (body : List ℕ) (r : Ranges) → AreRanges len t e body r → max (deep-Ranges r) 0 ≤ 3 * levels t.children + index_levels e
depth_le-levels len t e body ranges.Nulls h = omega arith
depth_le-levels len t e body (ranges.Bools b) h = omega arith
depth_le-levels len t e body (ranges.Ints n) h = omega arith
depth_le-levels len t e body (ranges.Binaries s) h = omega arith
depth_le-levels len t e body (ranges.Texts s) h = omega arith
depth_le-levels len t e body (ranges.FixedBytes f) h = omega arith
depth_le-levels len t e body (ranges.Lists w v o child) h = omega (arith, most_le-levels t.children (child.value ∷ []) h.2.typed)
depth_le-levels len t e body (ranges.Structs v children) h = omega (arith, most_le-levels t.children children.items h.2.typed)
depth_le-levels len t None body (ranges.Indices n d) h = absurd h
depth_le-levels len t (Some e) body (ranges.Indices n d) h = omega (arith, ap (λ (x : TypeShape). levels x.children) h.typed)

-- the arrays of a dictionary's values are lower than the dictionary
most_segments : (t : TypeShape) (segments : List Segment) → AllByRecursion (IsSegment t) (columns_of segments) → most deep-Segment segments ≤ 3 * levels t.children + 1
most_segments t [] h = omega arith
most_segments t (s ∷ ss) h = omega (arith, ap (λ (x : TypeShape). levels x.children) h.0.0, ap index_levels h.0.1, most_segments t ss h.1)

-- the same for all segments after others
past : (P : Column → Type 0) (xs ys : List Segment) → AllByRecursion P (columns_of (xs ++ ys)) → AllByRecursion P (columns_of xs) × AllByRecursion P (columns_of ys)
past P [] ys h = (tt, h)
past P (x ∷ xs) ys h = let rest = past P xs ys h.1 in ((h.0, rest.0), rest.1)

-- the arrays of blocks of segments are lower than the dictionary
most_blocks : {R : Type 0} (value : R → Block) (t : TypeShape) (blocks : List R) → AllByRecursion (IsSegment t) (columns_of (block_segments (map value blocks)))
    → most (λ r. deep-Block (value r)) blocks ≤ 3 * levels t.children + 1
most_blocks value t [] h = omega arith
most_blocks value t (b ∷ bs) h =
    let both = past (IsSegment t) (value b).segments.items (block_segments (map value bs)) h in
    omega (arith, most_segments t (value b).segments.items both.0, most_blocks value t bs both.1)

-- the arrays of blocks and of the last segments are
pub all_fall : {R : Type 0} (value : R → Block) (t : TypeShape) (blocks : List R) (last : List Segment) → AllByRecursion (IsSegment t) (columns_of (block_segments (map value blocks) ++ last))
    → (most (λ r. deep-Block (value r)) blocks ≤ 3 * levels t.children + 1) × (most deep-Segment last ≤ 3 * levels t.children + 1)
all_fall value t blocks last h =
    let both = past (IsSegment t) (block_segments (map value blocks)) last h in
    (most_blocks value t blocks both.0, most_segments t last both.1)
