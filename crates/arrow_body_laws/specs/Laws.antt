-- The properties of every body that a writer sends.
use Rattle.std.specs.Prelude.{◌≡◌, ◌<◌, ℕ, ℤ, List, length, map}
use Rattle.std.specs.List.{AllByRecursion}
use Rattle.arrow_types.specs.Field.{FieldTree}
use Rattle.arrow_data.specs.Column.{Agree, AreOf, Column, IsColumn, ValueList, listed_of}
use Rattle.arrow_layout.specs.ByteRanges.{AreBytes}
use Rattle.arrow_layout.specs.PlainValue.{PlainValue}
use Rattle.arrow_data.specs.Listed.{values_by}
use Rattle.arrow_body_reader.specs.Sound.{AreIndexed, AreLaid, AreText, columns_of}
use Rattle.arrow_body_reader.specs.Taken.{taken_buffers, taken_nodes}
use Rattle.arrow_body_laws.specs.Entries.{HaveEntries}
use Rattle.arrow_body_laws.specs.Formed.{AreFormed}
use Rattle.arrow_body_laws.specs.Raws.{AreRaws, AreSmall}
use Rattle.arrow_body_laws.specs.Size.{size_of}
use Rattle.arrow_body_laws.specs.Stored.{PlainBody, fields_of_columns, stored}
use Rattle.arrow_body_laws.specs.Canonical.{IsCanonical}

-- Nodes, buffers and bytes are columns of the fields with these raw values, and nothing else: they are well-formed
-- and their texts valid as a reader requires, indices have their values by all dictionaries that have the entries,
-- and the number of bytes is the size computed beforehand (Columnar Format, "RecordBatch message").
pub record IsBodyOf (align : ℕ) (fields : FieldTree) (raws : List (List PlainValue)) (b : PlainBody) : Type 0 where
  pub just_nodes : length b.nodes ≡ taken_nodes fields
  pub just_buffers : length b.buffers ≡ taken_buffers fields
  pub laid : AreLaid b.bytes fields b.nodes b.buffers
  pub text : AreText b.bytes fields b.nodes b.buffers
  pub indexed : (ds : List (ℤ × ValueList)) → HaveEntries (values_by ds) fields raws → AreIndexed b.bytes ds fields b.nodes b.buffers
  pub raw : (ds : List (ℤ × ValueList)) → map (λ (c : Column). c.raw) (columns_of b.bytes ds fields b.nodes b.buffers) ≡ raws
  pub sized : length b.bytes ≡ size_of align fields raws

-- The law `stored_is_read`: the stored form of raw values is a body of them.
abbrev pub StoredIsRead : Type 0
StoredIsRead =
    (align : ℕ) (fields : FieldTree) (raws : List (List PlainValue)) → 0 < align → AreRaws fields raws → AreSmall fields raws
    → IsBodyOf align fields raws (stored align fields raws)

-- The law `stored_is_canonical`: a stored body is canonical.
abbrev pub StoredIsCanonical : Type 0
StoredIsCanonical =
    (align : ℕ) (fields : FieldTree) (raws : List (List PlainValue)) → 0 < align → AreRaws fields raws → AreSmall fields raws
    → IsCanonical align fields (stored align fields raws).nodes (stored align fields raws).buffers (stored align fields raws).bytes

-- the raw values of columns
abbrev pub raws_of : List Column → List (List PlainValue)
raws_of cs = map (λ (c : Column). c.raw) cs

-- The raw values of the columns can be stored, and have their entries in all dictionaries that have the values which
-- the columns list.
pub record HoldRaws (cs : List Column) : Type 0 where
  pub raws : AreFormed (fields_of_columns cs) → AreRaws (fields_of_columns cs) (raws_of cs)
  pub entries : (dictionaries : ℤ → List PlainValue) → Agree (listed_of cs) dictionaries → HaveEntries dictionaries (fields_of_columns cs) (raws_of cs)

-- The law `columns_hold_raws`: this holds for all arrays.
abbrev pub ColumnsHoldRaws : Type 0
ColumnsHoldRaws = (cs : List Column) → AllByRecursion IsColumn cs → HoldRaws cs

-- The law `names_are_not_stored`: columns are stored as the fields that they are columns of, whatever their names are
-- and whether they may hold nulls.
abbrev pub NamesAreNotStored : Type 0
NamesAreNotStored =
    (align : ℕ) (fields : FieldTree) (cs : List Column) (raws : List (List PlainValue)) → AreOf fields cs
    → stored align (fields_of_columns cs) raws ≡ stored align fields raws

-- The law `one_body`: the stored body is the only one at an alignment whose bytes are canonical, well-formed as a
-- reader requires, and read as these raw values.
abbrev pub OneBody : Type 0
OneBody =
    (align : ℕ) (ds : List (ℤ × ValueList)) (fields : FieldTree) (raws : List (List PlainValue)) (b : PlainBody) → 0 < align → AreRaws fields raws → AreBytes b.bytes
    → IsCanonical align fields b.nodes b.buffers b.bytes → AreLaid b.bytes fields b.nodes b.buffers
    → map (λ (c : Column). c.raw) (columns_of b.bytes ds fields b.nodes b.buffers) ≡ raws
    → b ≡ stored align fields raws
