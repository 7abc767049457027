-- What the rows of a batch are, and the dictionaries that its columns refer to (Columnar Format, "Dictionary-encoded Layout").
use Rattle.std.specs.Prelude.{ℕ, ℤ, Bool, List, map}
use Rattle.std.specs.List.{AllByRecursion, list_all}
use Rattle.arrow_types.specs.Notes.{SchemaShape}
use Rattle.arrow_data.specs.Batch.{Table, IsTable}
use Rattle.arrow_data.specs.Column.{Column, ValueList, IsColumn, listed_of}
use Rattle.arrow_data.specs.Listed.{values_by}
use Rattle.arrow_layout.specs.PlainValue.{PlainValue}
use Rattle.arrow_body_laws.specs.Laws.{raws_of}
use Rattle.arrow_dict.specs.Choice.{same_list}

-- their values with every index looked up
abbrev pub resolved_of : List Column → List (List PlainValue)
resolved_of cs = map (λ (c : Column). c.resolved) cs

-- The rows of a batch: its schema, the raw values of each column, these with every index looked up, and how many rows there
-- are.
pub record Rows : Type 0 where
  pub schema : SchemaShape
  pub raw : List (List PlainValue)
  pub resolved : List (List PlainValue)
  pub count : ℕ

-- the rows of this batch
abbrev pub rows_of : Table → Rows
rows_of t = record { schema = t.schema; raw = raws_of t.columns; resolved = resolved_of t.columns; count = t.rows }

-- the values of the batch's dictionary of an id, the one that is listed first for it, none if no column refers to one
abbrev pub list_of : Table → ℤ → List PlainValue
list_of t = values_by (listed_of t.columns)

-- whether all columns of the batch that refer to a dictionary of one id have equal values for it
abbrev pub has_one_list : Table → Bool
has_one_list t = list_all (λ (d : ℤ × ValueList). same_list (list_of t d.0) d.1.values) (listed_of t.columns)

-- what holds of every batch and of each of its columns
pub record IsKnown (t : Table) : Type 0 where
  pub table : IsTable t
  pub columns : AllByRecursion IsColumn t.columns
