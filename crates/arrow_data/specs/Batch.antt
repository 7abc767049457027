-- Batches: columns of a schema (Message.fbs, table "RecordBatch").
use Rattle.std.specs.Prelude.{◌≡◌, ℕ, List, length, Result, Ok, Err, refl, codes}
use Rattle.std.specs.Coded.{Coded, code_by, coded×, coded_ℕ, coded_list}
use Rattle.std.specs.List.{AllByRecursion}
use Rattle.arrow_types.specs.Field.{width}
use Rattle.arrow_types.specs.Notes.{SchemaShape}
use Rattle.arrow_types.specs.Schema.{IsSchema}
use Rattle.arrow_types.specs.Stored.{schema_code}
use Rattle.arrow_data.specs.Column.{Column, AreOf, column_code}
use Rattle.arrow_data.specs.declared.batch.BatchFault.{BatchFault}
use Rattle.arrow_data.specs.declared.batch.BatchFault.TheVariants.{ColumnCount, ColumnType, ColumnLength, IndexRange, Memory}

-- What a record batch is to contracts: a table of a schema, a column for each of its fields, and the number of rows.
pub record Table : Type 0 where
  pub schema : SchemaShape
  pub columns : List Column
  pub rows : ℕ

-- how the logic encodes batches
abbrev pub table_code : Coded Table
table_code = code_by (SchemaShape × (List Column × ℕ)) (coded× schema_code (coded× (coded_list column_code) coded_ℕ))
    (λ t. (t.schema, (t.columns, t.rows))) (λ p. record { schema = p.0; columns = p.1.0; rows = p.1.1 }) (λ _. refl)

-- each column has a slot for each row
abbrev pub HaveRows : ℕ → List Column → Type 0
HaveRows rows columns = AllByRecursion (λ (c : Column). length c.raw ≡ rows) columns

-- what is known of every batch
pub record IsTable (t : Table) : Type 0 where
  pub schema : IsSchema t.schema.fields
  pub typed : AreOf t.schema.fields t.columns
  pub long : HaveRows t.rows t.columns

-- The result for a schema, columns and a number of rows: the batch of just these if no fault applies, else the first
-- fault that does. The last two faults apply to no columns at all: an array with an index that has no value is never
-- made, and nothing is allocated.
abbrev pub Judges : Result Table BatchFault → SchemaShape → List Column → ℕ → Type 0
Judges (Ok batch) schema columns rows = AreOf schema.fields columns × HaveRows rows columns × (batch ≡ record { schema = schema; columns = columns; rows = rows })
Judges (Err ColumnCount) schema columns rows = length columns ≡ width schema.fields → ⊥
Judges (Err ColumnType) schema columns rows = (length columns ≡ width schema.fields) × (AreOf schema.fields columns → ⊥)
Judges (Err ColumnLength) schema columns rows = AreOf schema.fields columns × (HaveRows rows columns → ⊥)
Judges (Err IndexRange) schema columns rows = ⊥
Judges (Err Memory) schema columns rows = ⊥

-- the number of a fault
abbrev pub number_of : BatchFault → ℕ
number_of ColumnCount = 1
number_of ColumnType = 2
number_of ColumnLength = 3
number_of IndexRange = 4
number_of Memory = 5

-- the words of a fault
abbrev pub words_of : BatchFault → List ℕ
words_of ColumnCount = codes "not one column for each field"
words_of ColumnType = codes "a column of another type than its field"
words_of ColumnLength = codes "a column with another number of slots than rows"
words_of IndexRange = codes "an index without a value"
words_of Memory = codes "out of memory"
