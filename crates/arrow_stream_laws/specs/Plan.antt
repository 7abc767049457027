-- The dictionary batches that are sent before a record batch (Columnar Format, "Dictionary Messages").
use Rattle.std.specs.Prelude.{ℤ, Bool, true, false, List, [], ◌∷◌, drop, option_map}
use Rattle.std.specs.List.{flat_map}
use Rattle.std.specs.Option.{unwrap_or}
use Rattle.arrow_types.specs.DataType.{null}
use Rattle.arrow_types.specs.Field.{FieldTree, none, TypeShape}
use Rattle.arrow_types.specs.Schema.{dictionary_fields, dictionary_ids}
use Rattle.arrow_data.specs.Batch.{Table}
use Rattle.arrow_data.specs.Column.{ValueList}
use Rattle.arrow_data.specs.Listed.{listed}
use Rattle.arrow_layout.specs.PlainValue.{PlainValue}
use Rattle.arrow_dict.specs.Choice.{choice}
use Rattle.arrow_dict.specs.Dictionaries.{placed}
use Rattle.arrow_dict.specs.ValueTypes.{value_type_of}
use Rattle.arrow_dict.specs.declared.update.Update.{Update}
use Rattle.arrow_dict.specs.declared.update.Update.TheVariants as updates
use Rattle.arrow_dict.specs.declared.update.Updates.{Updates}
use Rattle.arrow_stream_laws.specs.Rows.{list_of}

-- one dictionary batch: its id, whether it is a delta, the values that it carries, and all values of its id after it
pub record Sending : Type 0 where
  pub id : ℤ
  pub is_delta : Bool
  pub carried : List PlainValue
  pub whole : List PlainValue

-- the dictionary batch that brings the new list, as it was chosen; none if the lists are equal
abbrev pub sending : ℤ → Update → List PlainValue → List Sending
sending id updates.None new = []
sending id updates.New new = record { id = id; is_delta = false; carried = new; whole = new } ∷ []
sending id (updates.Delta n) new = record { id = id; is_delta = true; carried = drop n new; whole = new } ∷ []
sending id updates.Replace new = record { id = id; is_delta = false; carried = new; whole = new } ∷ []

-- what is sent so that an id has the new list, if these dictionaries were sent before
abbrev pub sending_for : Updates → List (ℤ × ValueList) → ℤ → List PlainValue → List Sending
sending_for mode ds id new = sending id (choice mode (option_map (λ (d : ValueList). d.values) (listed ds id)) new) new

-- the type that the schema has for the values of an id
abbrev pub value_type : FieldTree → ℤ → TypeShape
value_type fields id = unwrap_or (value_type_of (dictionary_fields fields) id) (record { tag = null; children = none })

-- the dictionaries after a dictionary batch, given those before it
abbrev pub with_list : FieldTree → Sending → List (ℤ × ValueList) → List (ℤ × ValueList)
with_list fields w ds = placed w.id (record { data_type = value_type fields w.id; values = w.whole }) ds

-- the dictionaries after several dictionary batches
abbrev pub with_lists : FieldTree → List Sending → List (ℤ × ValueList) → List (ℤ × ValueList)
with_lists fields [] ds = ds
with_lists fields (w ∷ ws) ds = with_lists fields ws (with_list fields w ds)

-- what is sent so that each of these ids has its list, id by id
abbrev pub sendings : Updates → List (ℤ × ValueList) → (ℤ → List PlainValue) → List ℤ → List Sending
sendings mode ds lists ids = flat_map (λ id. sending_for mode ds id (lists id)) ids

-- what is sent before a batch: for each id of the schema, in the order of `dictionary_ids`, its list in the batch,
-- given what was sent before the batch
abbrev pub plan : Updates → FieldTree → List (ℤ × ValueList) → Table → List Sending
plan mode fields ds t = sendings mode ds (list_of t) (dictionary_ids fields)

-- the dictionaries after a batch and what is sent before it
abbrev pub lists_after : Updates → FieldTree → List (ℤ × ValueList) → Table → List (ℤ × ValueList)
lists_after mode fields ds t = with_lists fields (plan mode fields ds t) ds

-- the dictionaries after several batches, given those before them
abbrev pub lists_sent : Updates → FieldTree → List (ℤ × ValueList) → List Table → List (ℤ × ValueList)
lists_sent mode fields ds [] = ds
lists_sent mode fields ds (t ∷ ts) = lists_sent mode fields (lists_after mode fields ds t) ts
