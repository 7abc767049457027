-- Columns whose body can be stored.
use Rattle.std.specs.Prelude.{◌≤◌, ◌<◌, ℕ, ◌^◌, List}
use Rattle.std.specs.List.{AllByRecursion}
use Rattle.arrow_data.specs.Column.{Column}
use Rattle.arrow_body_laws.specs.Laws.{raws_of}
use Rattle.arrow_body_laws.specs.Raws.{AreSmall}
use Rattle.arrow_body_laws.specs.Size.{size_of}
use Rattle.arrow_body_laws.specs.Stored.{fields_of_columns}
use Rattle.arrow_body_writer.specs.Sent.{nodes_of_type}

-- Each column has fewer nodes than the greatest 64-bit number, as any array that fits into memory does, and the slots
-- and offsets of each node are representable by numbers of their widths (Message.fbs, struct "FieldNode").
pub record AreRepresentable (cs : List Column) : Type 0 where
  pub counted : AllByRecursion (λ (c : Column). nodes_of_type c.data_type c.encoding < 18446744073709551615) cs
  pub small : AreSmall (fields_of_columns cs) (raws_of cs)

-- the length of the body of the columns
abbrev pub columns_size : ℕ → List Column → ℕ
columns_size align cs = size_of align (fields_of_columns cs) (raws_of cs)

-- a body of the columns can be stored, and it is not longer than 2^62
pub record CanBeStored (align : ℕ) (cs : List Column) : Type 0 where
  pub represented : AreRepresentable cs
  pub size : columns_size align cs ≤ 2 ^ 62
