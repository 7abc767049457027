-- The JSON of a row nests no deeper than its schema, and its numbers are JSON numbers: so its text parses as this
-- JSON.
use Rattle.std.proofs.Common.{◌≡◌, ◌≤◌, ◌+◌, ℕ, ℤ, pos, Bool, true, false, List, [], ◌∷◌, Option, None, Some, sym, subst, arith}
use Rattle.std.specs.Bool.{MatchBool}
use Rattle.std.specs.Float.{Format}
use Rattle.std.specs.Float as floats
use Rattle.json.specs.Json.{Json, number, string}
use Rattle.json.specs.Tree.{HasNumbers, ItemsHaveNumbers, MembersHaveNumbers, depth, items_depth, members_depth}
use Rattle.json.specs.Value.{items_of}
use Rattle.json.proofs.Printed.Trees.{document-print}
use Rattle.ryu.specs.Plain.{word_of}
use Rattle.hex.specs.Hex.{encode_lower}
use Rattle.arrow_types.specs.Field.{FieldTree, none, more, TypeShape, levels}
use Rattle.arrow_data.specs.Batch.{IsTable, Table}
use Rattle.arrow_data.specs.Column.{resolved_row_of}
use Rattle.arrow_layout.specs.Decimals.{decimal_of_bytes, unscaled_of}
use Rattle.arrow_layout.specs.Intervals.{interval_of_bytes}
use Rattle.arrow_layout.specs.PlainValue.{PlainValue, PlainValues, null_value, bool_value, int_value, binary_value, utf8_value, list_value, struct_value, no_values, more_values, values_of}
use Rattle.arrow_layout.specs.declared.decimals.Decimal.{Decimal as Wide}
use Rattle.arrow_layout.specs.declared.intervals.Interval.{Interval as Many}
use Rattle.arrow_csv.specs.Decimals.{decimal_text}
use Rattle.arrow_csv.specs.Intervals.{interval_text}
use Rattle.arrow_json.specs.declared.kind.JsonKind.{JsonKind}
use Rattle.arrow_json.specs.declared.kind.JsonKind.TheVariants.{Float, Decimal, Interval, Plain}
use Rattle.arrow_json.specs.Kinds.{kind_of}
use Rattle.arrow_json.specs.Laws.{RowReadsBack}
use Rattle.arrow_json.specs.Lines.{IsRowJson, as_row}
use Rattle.arrow_json.specs.Scalars.{IsNumberJson, ReadsBack, bytes_json}
use Rattle.arrow_json.specs.Values.{AreItems, AreMembers, IsJson, members_of}
use Rattle.arrow_json.proofs.DecimalNumbers.{decimal_is_number}

-- its numbers are JSON numbers, and it nests at most this deep
abbrev pub Reads : ℕ → Json → Type 0
Reads n json = HasNumbers json × (depth json ≤ n)

-- ---- values that hold no others

float_reads : (b : Bool) (format : Format) (x : floats.Float) (n : ℕ) (json : Json) → MatchBool b (ReadsBack format x json) (json ≡ string (word_of x)) → Reads n json
float_reads true format x n json h = subst (Reads n) (sym h.1) (h.2, omega arith)
float_reads false format x n json h = subst (Reads n) (sym h) (tt, omega arith)

number_reads : (kind : JsonKind) (z : ℤ) (n : ℕ) (json : Json) → IsNumberJson kind z json → Reads n json
number_reads (Float precision) z n json h = float_reads _ _ _ n json h
number_reads (Decimal scale) z n json h = subst (Reads n) (sym h) (decimal_is_number scale z, omega arith)
number_reads (Interval unit) z n json h = subst (Reads n) (sym h) (tt, omega arith)
number_reads Plain z n json h = subst (Reads n) (sym h) (decimal_is_number (pos 0) z, omega arith)

wide_reads : (o : Option Wide) (bytes : List ℕ) (n : ℕ) → Reads n (elim o [ None ↦ string (encode_lower bytes) | Some decimal ↦ number (decimal_text decimal.scale (unscaled_of decimal)) ])
wide_reads None bytes n = (tt, omega arith)
wide_reads (Some decimal) bytes n = (decimal_is_number decimal.scale (unscaled_of decimal), omega arith)

many_reads : (o : Option Many) (bytes : List ℕ) (n : ℕ) → Reads n (elim o [ None ↦ string (encode_lower bytes) | Some interval ↦ string (interval_text interval) ])
many_reads None bytes n = (tt, omega arith)
many_reads (Some interval) bytes n = (tt, omega arith)

bytes_read : (kind : JsonKind) (bytes : List ℕ) (n : ℕ) → Reads n (bytes_json kind bytes)
bytes_read (Float precision) bytes n = (tt, omega arith)
bytes_read (Decimal scale) bytes n = wide_reads (decimal_of_bytes scale bytes) bytes n
bytes_read (Interval unit) bytes n = many_reads (interval_of_bytes unit bytes) bytes n
bytes_read Plain bytes n = (tt, omega arith)

-- ---- values that hold others

abbrev ItemsRead : ℕ → List Json → Type 0
ItemsRead n js = ItemsHaveNumbers (items_of js) × (items_depth (items_of js) ≤ n)

abbrev MembersRead : ℕ → List (List ℕ × Json) → Type 0
MembersRead n ms = MembersHaveNumbers (members_of ms) × (members_depth (members_of ms) ≤ n)

mutual
  value_reads : (type : TypeShape) (v : PlainValue) (json : Json) → IsJson type v json → Reads (levels type.children + 1) json
  value_reads type null_value json h = subst (Reads (levels type.children + 1)) (sym h) (tt, omega arith)
  value_reads type (bool_value b) json h = subst (Reads (levels type.children + 1)) (sym h) (tt, omega arith)
  value_reads type (int_value z) json h = number_reads (kind_of type.tag) z (levels type.children + 1) json h
  value_reads type (binary_value bytes) json h = subst (Reads (levels type.children + 1)) (sym h) (bytes_read (kind_of type.tag) bytes (levels type.children + 1))
  value_reads type (utf8_value bytes) json h = subst (Reads (levels type.children + 1)) (sym h) (tt, omega arith)
  value_reads type (list_value items) json h =
      let inner = items_read type.children items h.0 h.1 in
      subst (Reads (levels type.children + 1)) (sym h.2) (inner.0, omega (arith, inner.1))
  value_reads type (struct_value parts) json h =
      let inner = members_read type.children parts h.0 h.1 in
      subst (Reads (levels type.children + 1)) (sym h.2) (inner.0, omega (arith, inner.1))

  items_read : (fields : FieldTree) (values : PlainValues) (js : List Json) → AreItems fields values js → ItemsRead (levels fields) js
  items_read none values js h = subst (ItemsRead 0) (sym h) (tt, omega arith)
  items_read (more head children rest) no_values js h = subst (ItemsRead (levels (more head children rest))) (sym h) (tt, omega arith)
  items_read (more head children rest) (more_values v vs) [] h = absurd h
  items_read (more head children rest) (more_values v vs) (json ∷ js) h =
      let own = value_reads (record { tag = head.tag; children = children }) v json h.0 in
      let others = items_read (more head children rest) vs js h.1 in
      ((own.0, others.0), omega (arith, own.1, others.1))

  members_read : (fields : FieldTree) (values : PlainValues) (ms : List (List ℕ × Json)) → AreMembers fields values ms → MembersRead (levels fields) ms
  members_read none values ms h = subst (MembersRead 0) (sym h) (tt, omega arith)
  members_read (more head children rest) no_values ms h = subst (MembersRead (levels (more head children rest))) (sym h) (tt, omega arith)
  members_read (more head children rest) (more_values v vs) [] h = absurd h
  members_read (more head children rest) (more_values v vs) (m ∷ ms) h =
      let own = value_reads (record { tag = head.tag; children = children }) v m.1 h.1 in
      let others = members_read rest vs ms h.2 in
      ((own.0, others.0), omega (arith, own.1, others.1))

-- the JSON of a row
pub row_reads : (batch : Table) (i : ℕ) (json : Json) → IsTable batch → IsRowJson (as_row batch i) json → Reads 33 json
row_reads batch i json table h =
    let inner = members_read batch.schema.fields (values_of (resolved_row_of batch.columns i)) h.0 h.1 in
    let shallow = table.schema.bounded.shallow in
    subst (Reads 33) (sym h.2) (inner.0, omega (arith, inner.1, shallow))

-- its text parses as this JSON
pub row_reads_back : RowReadsBack
row_reads_back batch i json table h = let reads = row_reads batch i json table h in document-print json reads.0 (omega (arith, reads.1))
