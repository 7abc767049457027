-- The measure by which the reading of tables terminates.
use Rattle.std.specs.Prelude.{ℕ, ◌+◌, ◌*◌, Option, Some, None}
use Rattle.arrow_meta_tree.specs.declared.kinds.TableKind.{TableKind}
use Rattle.arrow_meta_tree.specs.declared.kinds.TableKind.TheVariants as kinds
use Rattle.arrow_meta_tree.specs.declared.kinds.FieldForm.{FieldForm}
use Rattle.arrow_meta_tree.specs.declared.kinds.FieldForm.TheVariants as forms

-- Tables below a table have lower rank, except below a field.
abbrev pub rank : TableKind → ℕ
rank (kinds.Message types) = 5
rank (kinds.Schema types) = 4
rank (kinds.Field types) = 3
rank kinds.DictionaryEncoding = 2
rank kinds.RecordBatch = 1
rank kinds.DictionaryBatch = 2
rank (kinds.Type code) = 1
rank kinds.KeyValue = 1

-- the rank of the tables in a field of this form, 0 if it holds none
abbrev pub form_rank : FieldForm → ℕ
form_rank forms.Byte = 0
form_rank forms.Short = 0
form_rank forms.Int = 0
form_rank forms.Long = 0
form_rank forms.Text = 0
form_rank forms.Bytes = 0
form_rank forms.Pairs = 0
form_rank forms.Presence = 0
form_rank (forms.Table kind) = rank kind
form_rank (forms.Tables kind) = rank kind
form_rank (forms.Header types) = 4
form_rank (forms.Type types) = 1

-- above the rank of each field of a table
abbrev pub inner : TableKind → ℕ
inner (kinds.Message types) = rank (kinds.Message types)
inner (kinds.Schema types) = rank (kinds.Schema types)
inner (kinds.Field types) = 7
inner kinds.DictionaryEncoding = rank kinds.DictionaryEncoding
inner kinds.RecordBatch = rank kinds.RecordBatch
inner kinds.DictionaryBatch = rank kinds.DictionaryBatch
inner (kinds.Type code) = rank (kinds.Type code)
inner kinds.KeyValue = rank kinds.KeyValue

-- the remaining work
abbrev pub work : ℕ → ℕ → ℕ → ℕ
work levels rank step = 8 * (8 * levels + rank) + step

-- the rank of an opened table, 0 if none is opened
abbrev pub opened_rank : Option TableKind → ℕ
opened_rank None = 0
opened_rank (Some kind) = rank kind
