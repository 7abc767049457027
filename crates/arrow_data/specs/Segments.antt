-- What a dictionary represents, and what is known of the segments of every dictionary.
use Rattle.std.specs.Prelude.{◌≡◌, ◌≤◌, ◌<◌, ◌+◌, ℕ, List, [], ◌∷◌, ◌++◌, map, length, get_or, None}
use Rattle.std.specs.List.{AllByRecursion}
use Rattle.std.specs.Rc.{rc_value}
use Rattle.arrow_types.specs.Field.{TypeShape}
use Rattle.arrow_types.specs.View.{type_view}
use Rattle.arrow_layout.specs.PlainValue.{PlainValue}
use Rattle.arrow_data.specs.Column.{Column, ValueList, IsValueList}
use Rattle.arrow_data.specs.declared.array.Block.{Block}
use Rattle.arrow_data.specs.declared.array.Segment.{Segment}
use Rattle.arrow_data.specs.declared.array.Dictionary.TheInside.{Inside}

-- the columns of the segments
abbrev pub columns_of : List Segment → List Column
columns_of segments = map (λ (s : Segment). s.array.value) segments

-- the values of the columns, one after another
abbrev pub joined : List Column → List PlainValue
joined [] = []
joined (c ∷ cs) = c.raw ++ joined cs

-- a segment has the dictionary's type, and no encoding
abbrev pub IsSegment : TypeShape → Column → Type 0
IsSegment t c = (c.data_type ≡ t) × (c.encoding ≡ None)

-- where the values of each column begin, those of the first at index k
abbrev pub starts_from : ℕ → List Column → List ℕ
starts_from k [] = []
starts_from k (c ∷ cs) = k ∷ starts_from (k + length c.raw) cs

-- the stored starts of the segments
abbrev pub starts_of : List Segment → List ℕ
starts_of segments = map (λ (s : Segment). s.start) segments

-- the stored starts are where the values of each segment begin
abbrev pub HaveStarts : List Segment → Type 0
HaveStarts segments = starts_of segments ≡ starts_from 0 (columns_of segments)

-- the segments of blocks, one block after another
abbrev pub block_segments : List Block → List Segment
block_segments [] = []
block_segments (b ∷ bs) = b.segments.items ++ block_segments bs

-- the segments of a dictionary: those of its blocks, and the last ones
abbrev pub all_segments : Inside → List Segment
all_segments d = block_segments (map rc_value d.older.items) ++ d.segments.items

-- the stored starts of blocks
abbrev pub block_starts : List Block → List ℕ
block_starts blocks = map (λ (b : Block). b.start) blocks

-- a block has segments, and begins where the first of them does
pub record IsBlock (b : Block) : Type 0 where
  pub some : 0 < length b.segments.items
  pub start : b.start ≡ get_or (starts_of b.segments.items) 0 0

-- the values that a dictionary represents: those of its segments
abbrev pub value_list_of : Inside → ValueList
value_list_of d = record { data_type = type_view d.data_type; values = joined (columns_of (all_segments d)) }

-- what is known of the segments: their types, where each begins, and how many values they have
pub record IsDictionary (d : Inside) : Type 0 where
  pub known : IsValueList (value_list_of d)
  pub typed : AllByRecursion (IsSegment (type_view d.data_type)) (columns_of (all_segments d))
  pub starts : HaveStarts (all_segments d)
  pub blocks : AllByRecursion IsBlock (map rc_value d.older.items)
  pub total : d.len ≡ length (joined (columns_of (all_segments d)))

-- segments with the same columns and the same starts
pub record AreSame (xs ys : List Segment) : Type 0 where
  pub columns : columns_of xs ≡ columns_of ys
  pub starts : starts_of xs ≡ starts_of ys

-- consecutive segments of these blocks and the last ones, which contain value i
pub record IsPartWith (blocks : List Block) (last : List Segment) (i : ℕ) (part : List Segment) : Type 0 where
  pub before : List Segment
  pub after : List Segment
  pub whole : block_segments blocks ++ last ≡ before ++ (part ++ after)
  pub some : 0 < length part
  pub low : get_or (starts_of part) 0 0 ≤ i
  pub high : 0 < length after → i < get_or (starts_of after) 0 0

-- index i is at start `low` or after it, and before start `high`, if there is one
pub record Between (starts : List ℕ) (low high i : ℕ) : Type 0 where
  pub order : low < high
  pub inside : high ≤ length starts
  pub below : get_or starts low 0 ≤ i
  pub above : high < length starts → i < get_or starts high 0
