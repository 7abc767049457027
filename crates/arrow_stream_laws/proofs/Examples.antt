-- The definitions at values: what is chosen, planned, accepted and left of a dictionary that grows, of two
-- dictionaries of one id, of an empty dictionary, without columns and past a limit; where frames end, and how many
-- batches lie in the first bytes.
use Rattle.std.proofs.Common.{◌≡◌, ℕ, ℤ, pos, ◌+◌, ◌-◌, ◌^◌, Bool, true, false, cond, List, [], ◌∷◌, ◌++◌, length, map, take, Some, None, refl, ap, ◌∙◌, replicate}
use Rattle.std.specs.List.{list_all}
use Rattle.std.specs.Prelude.{◌&&◌, not, nat_le}
use Rattle.std.specs.Coded.{coded_list}
use Rattle.arrow_flatbuf.specs.Layout.{gap}
use Rattle.arrow_types.specs.DataType.{utf8}
use Rattle.arrow_types.specs.Equality.{is_equal, is_equal_decides}
use Rattle.arrow_types.specs.Field.{FieldTree, none, more, FieldHeader}
use Rattle.arrow_types.specs.Limits.{LimitNumbers, limit_numbers, standard_numbers}
use Rattle.arrow_types.specs.Notes.{KeyValue, Notes, unnoted, noted, SchemaShape}
use Rattle.arrow_types.specs.Stored.{schema_code}
use Rattle.arrow_types.specs.declared.data_type.BitWidth.TheVariants.{ThirtyTwo}
use Rattle.arrow_types.specs.declared.field.Encoding.{Encoding}
use Rattle.arrow_data.specs.Batch.{Table}
use Rattle.arrow_data.specs.Column.{Column, ValueList}
use Rattle.arrow_layout.specs.PlainValue.{PlainValue, int_value, utf8_value}
use Rattle.arrow_layout.specs.Stored.{value_code}
use Rattle.arrow_dict.specs.Choice.{choice, growth, same_list}
use Rattle.arrow_dict.specs.declared.update.Update.TheVariants as updates
use Rattle.arrow_dict.specs.declared.update.Updates.{Updates}
use Rattle.arrow_dict.specs.declared.update.Updates.TheVariants as modes
use Rattle.arrow_stream_laws.specs.Admission.{admission, fields_for, frame_fits, marker_fits, part_fits, record_size, schema_admission, sending_fits, sending_size, sendings_size}
use Rattle.arrow_stream_laws.specs.Plan.{Sending, sending, plan, with_lists, lists_after, lists_sent}
use Rattle.arrow_body_laws.specs.Laws.{raws_of}
use Rattle.arrow_stream_laws.specs.Rows.{has_one_list}
use Rattle.arrow_stream_laws.specs.Sizes.{Options, batch_size, dictionary_size, schema_size}
use Rattle.arrow_stream_laws.specs.Text.{whole_batches}
use Rattle.arrow_sink.specs.declared.write_fault.WriteFault.TheVariants.{SchemaDiffers, TooLarge, DictionariesDiffer}

-- five texts of one byte
abbrev a : PlainValue
a = utf8_value (1 ∷ [])

abbrev b : PlainValue
b = utf8_value (2 ∷ [])

abbrev c : PlainValue
c = utf8_value (3 ∷ [])

abbrev d : PlainValue
d = utf8_value (4 ∷ [])

abbrev e : PlainValue
e = utf8_value (5 ∷ [])

-- the lists of a dictionary that grows, and is then replaced
abbrev abc : List PlainValue
abc = a ∷ b ∷ c ∷ []

abbrev abcde : List PlainValue
abcde = a ∷ b ∷ c ∷ d ∷ e ∷ []

abbrev acde : List PlainValue
acde = a ∷ c ∷ d ∷ e ∷ []

-- THE CHOICE

same_yes : (xs ys : List PlainValue) → xs ≡ ys → same_list xs ys ≡ true
same_yes xs ys h = (is_equal_decides (coded_list value_code) xs ys).1 h

untrue : (t : Bool) → (t ≡ true → ⊥) → t ≡ false
untrue true n = absurd (n refl)
untrue false n = refl

same_no : (xs ys : List PlainValue) → (xs ≡ ys → ⊥) → same_list xs ys ≡ false
same_no xs ys n = untrue (same_list xs ys) (λ h. n ((is_equal_decides (coded_list value_code) xs ys).0 h))

-- equal lists: nothing
equal_is_none : (mode : Updates) (xs : List PlainValue) → choice mode (Some xs) xs ≡ updates.None
equal_is_none mode xs = ap (λ t. cond t updates.None (growth mode xs xs)) (same_yes xs xs refl)

-- the old list is a prefix of the new one: the values after it are sent
grown_is_delta : (old new : List PlainValue) → (old ≡ new → ⊥) → take (length old) new ≡ old → choice modes.Delta (Some old) new ≡ updates.Delta (length old)
grown_is_delta old new n h =
    ap (λ t. cond t updates.None (growth modes.Delta old new)) (same_no old new n)
    ∙ ap (λ t. cond t (updates.Delta (length old)) updates.Replace) (same_yes (take (length old) new) old h)

-- it is not: all of the new list is sent
changed_is_replace : (old new : List PlainValue) → (old ≡ new → ⊥) → (take (length old) new ≡ old → ⊥) → choice modes.Delta (Some old) new ≡ updates.Replace
changed_is_replace old new n h =
    ap (λ t. cond t updates.None (growth modes.Delta old new)) (same_no old new n)
    ∙ ap (λ t. cond t (updates.Delta (length old)) updates.Replace) (same_no (take (length old) new) old h)

-- without deltas all of the new list is sent, always
resent_is_replace : (old new : List PlainValue) → (old ≡ new → ⊥) → choice modes.Resend (Some old) new ≡ updates.Replace
resent_is_replace old new n = ap (λ t. cond t updates.None updates.Replace) (same_no old new n)

first_is_new : choice modes.Delta None abc ≡ updates.New
first_is_new = refl

grown : choice modes.Delta (Some abc) abcde ≡ updates.Delta 3
grown = grown_is_delta abc abcde (λ h. cc) refl

grown_again_whole : choice modes.Resend (Some abc) abcde ≡ updates.Replace
grown_again_whole = resent_is_replace abc abcde (λ h. cc)

changed : choice modes.Delta (Some abcde) acde ≡ updates.Replace
changed = changed_is_replace abcde acde (λ h. cc) (λ h. cc)

changed_whole : choice modes.Resend (Some abcde) acde ≡ updates.Replace
changed_whole = resent_is_replace abcde acde (λ h. cc)

-- a list that is cut off is replaced
cut_off : choice modes.Delta (Some abc) (a ∷ b ∷ []) ≡ updates.Replace
cut_off = changed_is_replace abc (a ∷ b ∷ []) (λ h. cc) (λ h. cc)

empty_is_new : choice modes.Delta None [] ≡ updates.New
empty_is_new = refl

empty_again_is_none : choice modes.Delta (Some []) [] ≡ updates.None
empty_again_is_none = equal_is_none modes.Delta []

after_empty_is_delta : choice modes.Delta (Some []) (a ∷ []) ≡ updates.Delta 0
after_empty_is_delta = grown_is_delta [] (a ∷ []) (λ h. cc) refl

-- BATCHES OF ONE COLUMN

abbrev encoding : Encoding
encoding = record { id = pos 0; index = record { bits = ThirtyTwo; signed = true }; ordered = false }

-- a nullable field of texts with id 0, named k
abbrev field : FieldHeader
field = record { name = 107 ∷ []; nullable = true; tag = utf8; encoding = Some encoding }

abbrev one_column : FieldTree
one_column = more field none none

-- no pairs at any of these fields
abbrev blank : FieldTree → Notes
blank none = unnoted
blank (more head children rest) = noted [] (blank children) (blank rest)

-- fields as a schema without pairs
abbrev plain : FieldTree → SchemaShape
plain fields = record { fields = fields; pairs = []; notes = blank fields }

abbrev one : SchemaShape
one = plain one_column

-- a column of these indices, which refer to these values in this list
abbrev column : List PlainValue → List PlainValue → List PlainValue → Column
column indices resolved values = record { data_type = record { tag = utf8; children = none }; encoding = Some encoding; raw = indices; resolved = resolved; dictionaries = (pos 0, record { data_type = record { tag = utf8; children = none }; values = values }) ∷ []; offsets = []; below = [] }

abbrev batch_of : List Column → ℕ → Table
batch_of columns rows = record { schema = one; columns = columns; rows = rows }

abbrev index : ℕ → PlainValue
index n = int_value (pos n)

abbrev first : Table
first = batch_of (column (index 0 ∷ index 1 ∷ index 2 ∷ []) abc abc ∷ []) 3

abbrev second : Table
second = batch_of (column (index 4 ∷ index 0 ∷ []) (e ∷ a ∷ []) abcde ∷ []) 2

abbrev third : Table
third = batch_of (column (index 1 ∷ index 3 ∷ []) (c ∷ e ∷ []) acde ∷ []) 2

-- the dictionaries in which id 0 has these values
abbrev having : List PlainValue → List (ℤ × ValueList)
having values = (pos 0, record { data_type = record { tag = utf8; children = none }; values = values }) ∷ []

abbrev whole_list : List PlainValue → Sending
whole_list values = record { id = pos 0; is_delta = false; carried = values; whole = values }

first_sends : (mode : Updates) → plan mode one_column [] first ≡ whole_list abc ∷ []
first_sends mode = refl

first_leaves : (mode : Updates) → lists_after mode one_column [] first ≡ having abc
first_leaves mode = refl

second_sends : plan modes.Delta one_column (having abc) second ≡ record { id = pos 0; is_delta = true; carried = d ∷ e ∷ []; whole = abcde } ∷ []
second_sends = ap (λ u. sending (pos 0) u abcde ++ []) grown

second_leaves : lists_after modes.Delta one_column (having abc) second ≡ having abcde
second_leaves = ap (λ ws. with_lists one_column ws (having abc)) second_sends

second_sends_whole : plan modes.Resend one_column (having abc) second ≡ whole_list abcde ∷ []
second_sends_whole = ap (λ u. sending (pos 0) u abcde ++ []) grown_again_whole

third_sends : plan modes.Delta one_column (having abcde) third ≡ whole_list acde ∷ []
third_sends = ap (λ u. sending (pos 0) u acde ++ []) changed

third_sends_whole : plan modes.Resend one_column (having abcde) third ≡ whole_list acde ∷ []
third_sends_whole = ap (λ u. sending (pos 0) u acde ++ []) changed_whole

third_leaves : lists_after modes.Delta one_column (having abcde) third ≡ having acde
third_leaves = ap (λ ws. with_lists one_column ws (having abcde)) third_sends

all_leave : lists_sent modes.Delta one_column [] (first ∷ second ∷ third ∷ []) ≡ having acde
all_leave = ap (λ ds. lists_after modes.Delta one_column ds third) second_leaves ∙ third_leaves

-- an empty dictionary is sent too, but not a second time
empty_sends : plan modes.Delta one_column [] (batch_of (column [] [] [] ∷ []) 0) ≡ whole_list [] ∷ []
empty_sends = refl

empty_sends_nothing : plan modes.Delta one_column (having []) (batch_of (column [] [] [] ∷ []) 0) ≡ []
empty_sends_nothing = ap (λ u. sending (pos 0) u [] ++ []) empty_again_is_none

-- SIZES, at an alignment of 8

-- the metadata of a schema, of a dictionary batch of texts, and of a record batch of one column of indices
schema_takes : schema_size 8 one ≡ 192
unfolding gap
schema_takes = refl

dictionary_takes : dictionary_size 8 (fields_for one_column (pos 0)) ≡ 192
unfolding gap
dictionary_takes = refl

batch_takes : batch_size 8 one_column ≡ 144
unfolding gap
batch_takes = refl

abbrev ends_from : ℕ → List ℕ → List ℕ
ends_from p [] = []
ends_from p (n ∷ ns) = (p + n) ∷ ends_from (p + n) ns

-- where the frames of a batch end, if they begin at the offset and these dictionary batches are sent
abbrev ends_by : ℕ → Table → List Sending → List ℕ
ends_by p t ws = ends_from p (map (sending_size 8 one_column) ws ++ record_size 8 one_column t ∷ [])

abbrev ends : Updates → List (ℤ × ValueList) → ℕ → Table → List ℕ
ends mode ds p t = ends_by p t (plan mode one_column ds t)

-- as deltas: the schema ends at 200, then come 424, 592, 816, 976, 1208, 1368 and the end marker
first_ends : (mode : Updates) → ends mode [] 200 first ≡ 424 ∷ 592 ∷ []
unfolding gap
first_ends mode = refl

second_ends : ends modes.Delta (having abc) 592 second ≡ 816 ∷ 976 ∷ []
unfolding gap
second_ends = ap (ends_by 592 second) second_sends

third_ends : ends modes.Delta (having abcde) 976 third ≡ 1208 ∷ 1368 ∷ []
unfolding gap
third_ends = ap (ends_by 976 third) third_sends

-- sent in full each time
second_ends_whole : ends modes.Resend (having abc) 592 second ≡ 824 ∷ 984 ∷ []
unfolding gap
second_ends_whole = ap (ends_by 592 second) second_sends_whole

third_ends_whole : ends modes.Resend (having abcde) 984 third ≡ 1216 ∷ 1376 ∷ []
unfolding gap
third_ends_whole = ap (ends_by 984 third) third_sends_whole

-- ADMISSION

abbrev options : Updates → Options
options mode = record { updates = mode; align = 8 }

-- the first fault that applies, by its tests
by_tests : (l : LimitNumbers) (o : Options) (shape : SchemaShape) (ds : List (ℤ × ValueList)) (p : ℕ) (t : Table) (x y z : Bool)
    → is_equal schema_code t.schema shape ≡ x → has_one_list t ≡ y → part_fits l o shape.fields ds p t ≡ z
    → admission l o shape ds p t ≡ cond (not x) (Some SchemaDiffers) (cond (not y) (Some DictionariesDiffer) (cond (not z) (Some TooLarge) None))
by_tests l o shape ds p t x y z schema one fits =
    ap (λ v. cond (not v) (Some SchemaDiffers) (cond (not (has_one_list t)) (Some DictionariesDiffer) (cond (not (part_fits l o shape.fields ds p t)) (Some TooLarge) None))) schema
    ∙ ap (λ v. cond (not x) (Some SchemaDiffers) (cond (not v) (Some DictionariesDiffer) (cond (not (part_fits l o shape.fields ds p t)) (Some TooLarge) None))) one
    ∙ ap (λ v. cond (not x) (Some SchemaDiffers) (cond (not y) (Some DictionariesDiffer) (cond (not v) (Some TooLarge) None))) fits

same_schema : (shape : SchemaShape) → is_equal schema_code shape shape ≡ true
same_schema shape = (is_equal_decides schema_code shape shape).1 refl

-- a batch of one column has one dictionary
one_list : (values : List PlainValue) → same_list values values && true ≡ true
one_list values = ap (λ t. t && true) (same_yes values values refl)

-- whether the messages of a batch fit that sends these dictionary batches
abbrev fits_by : LimitNumbers → ℕ → Table → List Sending → Bool
fits_by l p t ws =
    list_all (sending_fits l 8 one_column) ws && frame_fits l 8 (batch_size 8 one_column) one_column (raws_of t.columns) t.rows
    && nat_le (p + (sendings_size 8 one_column ws + record_size 8 one_column t)) (2 ^ 62)

first_admitted : admission standard_numbers (options modes.Delta) one [] 200 first ≡ None
unfolding gap
first_admitted = by_tests standard_numbers (options modes.Delta) one [] 200 first true true true (same_schema one) (one_list abc) refl

second_admitted : admission standard_numbers (options modes.Delta) one (having abc) 592 second ≡ None
unfolding gap
second_admitted = by_tests standard_numbers (options modes.Delta) one (having abc) 592 second true true true (same_schema one) (one_list abcde) (ap (fits_by standard_numbers 592 second) second_sends)

third_admitted : admission standard_numbers (options modes.Delta) one (having abcde) 976 third ≡ None
unfolding gap
third_admitted = by_tests standard_numbers (options modes.Delta) one (having abcde) 976 third true true true (same_schema one) (one_list acde) (ap (fits_by standard_numbers 976 third) third_sends)

-- at most four rows: the list of five values is rejected, though only two of them would be sent
abbrev four_rows : LimitNumbers
four_rows = limit_numbers (2 ^ 26) (2 ^ 36) 4

second_too_large : admission four_rows (options modes.Delta) one (having abc) 592 second ≡ Some TooLarge
unfolding gap
second_too_large = by_tests four_rows (options modes.Delta) one (having abc) 592 second true true false (same_schema one) (one_list abcde) (ap (fits_by four_rows 592 second) second_sends)

-- the third batch is then compared with what was sent before the rejected one
third_sends_instead : plan modes.Delta one_column (having abc) third ≡ whole_list acde ∷ []
third_sends_instead = ap (λ u. sending (pos 0) u acde ++ []) (changed_is_replace abc acde (λ h. cc) (λ h. cc))

third_admitted_instead : admission four_rows (options modes.Delta) one (having abc) 592 third ≡ None
unfolding gap
third_admitted_instead = by_tests four_rows (options modes.Delta) one (having abc) 592 third true true true (same_schema one) (one_list acde) (ap (fits_by four_rows 592 third) third_sends_instead)

third_ends_instead : ends modes.Delta (having abc) 592 third ≡ 824 ∷ 984 ∷ []
unfolding gap
third_ends_instead = ap (ends_by 592 third) third_sends_instead

-- one byte past the last offset
past_the_last_place : admission standard_numbers (options modes.Delta) one [] (2 ^ 62 - 391) first ≡ Some TooLarge
unfolding gap
past_the_last_place = by_tests standard_numbers (options modes.Delta) one [] (2 ^ 62 - 391) first true true false (same_schema one) (one_list abc) refl

up_to_the_last_place : admission standard_numbers (options modes.Delta) one [] (2 ^ 62 - 392) first ≡ None
unfolding gap
up_to_the_last_place = by_tests standard_numbers (options modes.Delta) one [] (2 ^ 62 - 392) first true true true (same_schema one) (one_list abc) refl

no_marker_there : marker_fits (2 ^ 62 - 7) ≡ false
no_marker_there = refl

schema_admitted : schema_admission standard_numbers (options modes.Delta) one ≡ None
unfolding gap
schema_admitted = refl

schema_too_large : schema_admission (limit_numbers 191 0 0) (options modes.Delta) one ≡ Some TooLarge
unfolding gap
schema_too_large = refl

-- TWO COLUMNS OF ONE ID

abbrev two_columns : FieldTree
two_columns = more field none one_column

abbrev two : SchemaShape
two = plain two_columns

abbrev side_by_side : List PlainValue → List PlainValue → Table
side_by_side xs ys = record { schema = two; columns = column [] [] xs ∷ column [] [] ys ∷ []; rows = 0 }

two_lists : has_one_list (side_by_side (a ∷ []) (b ∷ [])) ≡ false
two_lists = ap (λ t. t && (same_list (a ∷ []) (b ∷ []) && true)) (same_yes (a ∷ []) (a ∷ []) refl) ∙ ap (λ t. t && true) (same_no (a ∷ []) (b ∷ []) (λ h. cc))

two_lists_refused : admission standard_numbers (options modes.Delta) two [] 200 (side_by_side (a ∷ []) (b ∷ [])) ≡ Some DictionariesDiffer
two_lists_refused =
    by_tests standard_numbers (options modes.Delta) two [] 200 (side_by_side (a ∷ []) (b ∷ [])) true false
    (part_fits standard_numbers (options modes.Delta) two_columns [] 200 (side_by_side (a ∷ []) (b ∷ []))) (same_schema two) two_lists refl

same_lists : has_one_list (side_by_side (a ∷ []) (a ∷ [])) ≡ true
same_lists = ap (λ t. t && (t && true)) (same_yes (a ∷ []) (a ∷ []) refl)

same_lists_admitted : admission standard_numbers (options modes.Delta) two [] 200 (side_by_side (a ∷ []) (a ∷ [])) ≡ None
unfolding gap
same_lists_admitted = by_tests standard_numbers (options modes.Delta) two [] 200 (side_by_side (a ∷ []) (a ∷ [])) true true true (same_schema two) same_lists refl

sent_once : plan modes.Delta two_columns [] (side_by_side (a ∷ []) (a ∷ [])) ≡ whole_list (a ∷ []) ∷ []
sent_once = refl

-- a different schema is the first fault
schema_differs : admission four_rows (options modes.Delta) one [] 200 (side_by_side (a ∷ []) (b ∷ [])) ≡ Some SchemaDiffers
schema_differs =
    by_tests four_rows (options modes.Delta) one [] 200 (side_by_side (a ∷ []) (b ∷ [])) false (has_one_list (side_by_side (a ∷ []) (b ∷ [])))
    (part_fits four_rows (options modes.Delta) one_column [] 200 (side_by_side (a ∷ []) (b ∷ []))) other refl refl
  where
    other : is_equal schema_code two one ≡ false
    other = untrue (is_equal schema_code two one) (λ h. let same : two_columns ≡ one_column = ap (λ (s : SchemaShape). s.fields) ((is_equal_decides schema_code two one).0 h) in cc)

-- a schema also differs if it lacks a pair of a key k and a value v, or has it at its field
abbrev pair : KeyValue
pair = record { key = 107 ∷ []; value = 118 ∷ [] }

abbrev with_pair : SchemaShape
with_pair = record { fields = one_column; pairs = pair ∷ []; notes = blank one_column }

abbrev noted_field : SchemaShape
noted_field = record { fields = one_column; pairs = []; notes = noted (pair ∷ []) unnoted unnoted }

differs : (shape : SchemaShape) → (one ≡ shape → ⊥) → admission standard_numbers (options modes.Delta) shape [] 200 first ≡ Some SchemaDiffers
differs shape n =
    by_tests standard_numbers (options modes.Delta) shape [] 200 first false (has_one_list first) (part_fits standard_numbers (options modes.Delta) shape.fields [] 200 first)
    (untrue (is_equal schema_code one shape) (λ h. n ((is_equal_decides schema_code one shape).0 h))) refl refl

pair_lacks : admission standard_numbers (options modes.Delta) with_pair [] 200 first ≡ Some SchemaDiffers
pair_lacks = differs with_pair (λ h. let same : ◌≡◌ {A = List KeyValue} [] (pair ∷ []) = ap (λ (s : SchemaShape). s.pairs) h in cc)

pair_of_a_field_lacks : admission standard_numbers (options modes.Delta) noted_field [] 200 first ≡ Some SchemaDiffers
pair_of_a_field_lacks = differs noted_field (λ h. let same : noted [] unnoted unnoted ≡ noted (pair ∷ []) unnoted unnoted = ap (λ (s : SchemaShape). s.notes) h in cc)

-- NO COLUMNS

abbrev no_columns : Table
no_columns = record { schema = plain none; columns = []; rows = 3 }

-- nothing but the record batch is sent
no_columns_plan : plan modes.Delta none [] no_columns ≡ []
no_columns_plan = refl

no_columns_admitted : admission standard_numbers (options modes.Delta) (plain none) [] 200 no_columns ≡ None
unfolding gap
no_columns_admitted = by_tests standard_numbers (options modes.Delta) (plain none) [] 200 no_columns true true true (same_schema (plain none)) refl refl

-- FIRST BYTES, of the messages of the dictionary that grows as deltas

abbrev parts : List (List ℕ)
parts = replicate 200 0 ∷ replicate 392 0 ∷ replicate 384 0 ∷ replicate 392 0 ∷ replicate 8 0 ∷ []

abbrev batches : List Table
batches = first ∷ second ∷ third ∷ []

without_a_schema : whole_batches parts batches 199 ≡ 0
without_a_schema = refl

without_a_batch : whole_batches parts batches 591 ≡ 0
without_a_batch = refl

before_the_last_byte : whole_batches parts batches 975 ≡ 1
before_the_last_byte = refl

with_the_last_byte : whole_batches parts batches 976 ≡ 2
with_the_last_byte = refl

-- the end marker is not a batch
with_the_end_marker : whole_batches parts batches 1376 ≡ 3
with_the_end_marker = refl

past_the_end : whole_batches parts batches 5000 ≡ 3
past_the_end = refl
