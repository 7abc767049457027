-- The tree that is written for a message has no fault.
use Rattle.std.proofs.Common.{◌≡◌, ℕ, ◌^◌, ◌<◌, ◌≤◌, Bool, true, false, ◌||◌, not, nat_lt, if◌then◌else◌}
use Rattle.std.proofs.Common.{List, [], ◌∷◌, Option, Some, None, is_some, refl, sym, ap, ◌∙◌, inl, inr, arith}
use Rattle.std.proofs.lemmas.Bool.{le-ltb, or_from, or_parts}
use Rattle.arrow_types.specs.DataType as tags
use Rattle.arrow_types.specs.DataType.{TypeId}
use Rattle.arrow_types.specs.Field as columns
use Rattle.arrow_types.specs.Field.{FieldHeader, FieldTree, width}
use Rattle.arrow_types.specs.Notes.{KeyValue, Notes}
use Rattle.arrow_types.specs.Schema.{is_nested, lacks_entries, types_differ, dictionary_fields}
use Rattle.arrow_types.specs.TypeSet.{leaves_out, leaves_some_out}
use Rattle.arrow_types.specs.declared.fault.SchemaFault.TheVariants.{MapEntries}
use Rattle.arrow_types.specs.declared.type_set.TypeSet.{TypeSet}
use Rattle.arrow_types.specs.declared.field.Encoding.{Encoding}
use Rattle.arrow_meta_tree.specs.declared.kinds.TableKind.{TableKind}
use Rattle.arrow_meta_tree.specs.declared.kinds.TableKind.TheVariants as kinds
use Rattle.arrow_meta_reader.specs.Versions.{number_of_version, metadata_version}
use Rattle.arrow_meta_tree.specs.declared.fault.MetaFault.{MetaFault}
use Rattle.arrow_meta_tree.specs.declared.fault.MetaFault.TheVariants.{Metadata, Version, Header, BodyLength, Unsupported}
use Rattle.arrow_meta_reader.specs.declared.message.MetadataVersion.{MetadataVersion}
use Rattle.arrow_meta_reader.specs.declared.message.MetadataVersion.TheVariants as versions
use Rattle.arrow_meta_schema.specs.Conditions.{any, any_in, lacks_table, is_unsupported, is_misfit}
use Rattle.arrow_meta_schema.specs.Conditions.{children_fit, entries_fit}
use Rattle.arrow_meta_reader.specs.Faults.{body_of, fault_of, header_in, is_bad_length, is_unsupported_schema, version_in}
use Rattle.arrow_meta_tree.specs.Types.{type_code}
use Rattle.arrow_meta_writer.specs.Layouts.{tag_code, first_pairs, first_below, first_rest}
use Rattle.arrow_meta_reader.specs.Means.{PlainHeader, schema, dictionary, batch, PlainMessage}
use Rattle.arrow_meta_tree.specs.Parts.{parts}
use Rattle.arrow_meta_schema.specs.SchemaMeaning.{fields_from}
use Rattle.arrow_meta_tree.specs.Trees.{table, Trees}
use Rattle.arrow_meta_writer.specs.Writable.{IsField, AreFields, IsHeader, leaves_header_out}
use Rattle.arrow_meta_writer.specs.Written.{type_tree, encoding_tree, field_parts, field_trees}
use Rattle.arrow_meta_writer.specs.Written.{header_tree, message_parts, pair_tree, pair_trees, metadata_tree}
use Rattle.arrow_meta_writer.proofs.Again.{fields_again}
use Rattle.arrow_meta_writer.proofs.Flawless.{AreFlawless, IsFlawless, below_flawless, first_flawless, rest_flawless}
use Rattle.arrow_meta_writer.proofs.TypeRows.{width_again, fitting_all}
use Rattle.arrow_meta_writer.proofs.TypeTrees.{whole_type, has_type, supported_type, known_type, opened_or_none}
use Rattle.arrow_types.proofs.Clashes.{none_differ}

-- Pairs pass a test that every KeyValue table passes.
pairs_pass : (test : TableKind → Trees → Bool) → ((xs : Trees) → test kinds.KeyValue xs ≡ false) → (ps : List KeyValue) → any_in test (pair_trees ps) ≡ false
pairs_pass test none_fails [] = refl
pairs_pass test none_fails (p ∷ ps) =
    let here = none_fails (parts (pair_tree p)) in
    let later = pairs_pass test none_fails ps in
    rw (here, later) refl

metadata_pass : (test : TableKind → Trees → Bool) → ((xs : Trees) → test kinds.KeyValue xs ≡ false) → (ps : List KeyValue) → any test (metadata_tree ps) ≡ false
metadata_pass test none_fails [] = refl
metadata_pass test none_fails (p ∷ ps) = pairs_pass test none_fails (p ∷ ps)

-- A Field table passes a test if it does itself, and its type, its encoding, its children and its pairs do.
field_passes : (types : TypeSet) (test : TableKind → Trees → Bool) (head : FieldHeader) (ps : List KeyValue) (below : Trees) → test (kinds.Field types) (field_parts types head ps below) ≡ false → any test (type_tree types head.tag) ≡ false → any test (encoding_tree head.encoding) ≡ false
    → any_in test below ≡ false → any test (metadata_tree ps) ≡ false → any test (table (kinds.Field types) (field_parts types head ps below)) ≡ false
field_passes types test head ps below here type encoding children noted = rw (here, type, encoding, children, noted) refl

-- No table is missing.

whole_encoding : (e : Option Encoding) → any lacks_table (encoding_tree e) ≡ false
whole_encoding None = refl
whole_encoding (Some e) = refl

lacks_none : (types : TypeSet) (fields : FieldTree) (n : Notes) → any_in lacks_table (field_trees types fields n) ≡ false
lacks_none types columns.none n = refl
lacks_none types (columns.more head children rest) n =
    let below = field_trees types children (first_below n) in
    let here = field_passes types lacks_table head (first_pairs n) below (has_type types head.tag) (whole_type types head.tag) (whole_encoding head.encoding) (lacks_none types children (first_below n)) (metadata_pass lacks_table (λ xs. refl) (first_pairs n)) in
    let later = lacks_none types rest (first_rest n) in
    rw (here, later) refl

-- Only what the set leaves out is unsupported.

supported_encoding : (e : Option Encoding) → any is_unsupported (encoding_tree e) ≡ false
supported_encoding None = refl
supported_encoding (Some e) = refl

or_nothing : (b : Bool) → (b || false) ≡ b
or_nothing true = refl
or_nothing false = refl

-- A Field table fails a test if it does itself or its children do, provided that its type, its encoding and its pairs
-- pass it.
field_fails : (types : TypeSet) (test : TableKind → Trees → Bool) (head : FieldHeader) (ps : List KeyValue) (below : Trees) (own : Bool) → test (kinds.Field types) (field_parts types head ps below) ≡ own
    → any test (type_tree types head.tag) ≡ false → any test (encoding_tree head.encoding) ≡ false → any test (metadata_tree ps) ≡ false
    → any test (table (kinds.Field types) (field_parts types head ps below)) ≡ (own || any_in test below)
field_fails types test head ps below own here type encoding noted = rw (here, type, encoding, noted) (ap (λ b. own || b) (or_nothing (any_in test below)))

-- An unsupported item is a type that the set leaves out.
all_supported : (types : TypeSet) (fields : FieldTree) (n : Notes) → any_in is_unsupported (field_trees types fields n) ≡ leaves_some_out types fields
all_supported types columns.none n = refl
all_supported types (columns.more head children rest) n =
    let below = field_trees types children (first_below n) in
    let here = field_fails types is_unsupported head (first_pairs n) below (leaves_out types head.tag) (known_type types head.tag) (supported_type types head.tag) (supported_encoding head.encoding) (metadata_pass is_unsupported (λ xs. refl) (first_pairs n)) in
    let whole = here ∙ ap (λ b. leaves_out types head.tag || b) (all_supported types children (first_below n)) in
    let later = all_supported types rest (first_rest n) in
    λ i. whole i || later i

-- Nothing is a misfit.

fitting_type : (types : TypeSet) (tag : TypeId) (children : FieldTree) → IsFlawless tag children → any is_misfit (type_tree types tag) ≡ false
fitting_type types tag children flawless = elim (opened_or_none types tag) [
  | inl absent ↦ ap (any is_misfit) absent
  | inr same ↦ ap (any is_misfit) same ∙ fitting_all tag children flawless
]

fitting_encoding : (e : Option Encoding) → any is_misfit (encoding_tree e) ≡ false
fitting_encoding None = refl
fitting_encoding (Some e) = let known = width_again e.index.bits in rw known refl

-- the entries of a map fit if it has them
fitting_entries : (tag : TypeId) (children : FieldTree) → lacks_entries tag children ≡ false → not (entries_fit (type_code (tag_code tag)) children) ≡ false
fitting_entries (tags.map sorted) children mapped = mapped
fitting_entries tag children mapped = refl

fitting_field : (types : TypeSet) (head : FieldHeader) (ps : List KeyValue) (children : FieldTree) (n : Notes) → IsField head children → AreFields children → IsFlawless head.tag children → AreFlawless children
    → leaves_some_out types children ≡ false → is_misfit (kinds.Field types) (field_parts types head ps (field_trees types children n)) ≡ false
fitting_field types head ps children n h below own flawless within =
    let code = type_code (tag_code head.tag) in
    let again = fields_again types children n below flawless within in
    let fits : children_fit code (width (fields_from (field_trees types children n))) ≡ true = ap (λ fs. children_fit code (width fs)) again ∙ h.fits in
    let entries : not (entries_fit code (fields_from (field_trees types children n))) ≡ false = ap (λ fs. not (entries_fit code fs)) again ∙ fitting_entries head.tag children (own MapEntries) in
    or_from _ _ (ap not fits) entries

all_fitting : (types : TypeSet) (fields : FieldTree) (n : Notes) → AreFields fields → AreFlawless fields → leaves_some_out types fields ≡ false → any_in is_misfit (field_trees types fields n) ≡ false
all_fitting types columns.none n h flawless within = refl
all_fitting types (columns.more head children rest) n h flawless within =
    let in_all = or_parts (leaves_out types head.tag || leaves_some_out types children) (leaves_some_out types rest) within in
    let in_own = or_parts (leaves_out types head.tag) (leaves_some_out types children) in_all.0 in
    let own = first_flawless head children rest flawless in
    let inner = below_flawless head children rest flawless in
    let ps = first_pairs n in
    let below = first_below n in
    let here = field_passes types is_misfit head ps (field_trees types children below) (fitting_field types head ps children below h.0 h.1 own inner in_own.1) (fitting_type types head.tag children own) (fitting_encoding head.encoding) (all_fitting types children below h.1 inner in_own.1) (metadata_pass is_misfit (λ xs. refl) ps) in
    let later = all_fitting types rest (first_rest n) h.2 (rest_flawless head children rest flawless) in_all.1 in
    rw (here, later) refl

-- The body's length is neither negative nor over the limit.
good_length : (max n : ℕ) → n ≤ max → n < 2 ^ 63 → is_bad_length max n ≡ false
good_length max n h k =
    let positive : nat_lt 9223372036854775807 n ≡ false = le-ltb 9223372036854775807 n (omega (arith, k)) in
    let within : nat_lt max n ≡ false = le-ltb max n h in
    rw (positive, within) refl

version_read : (version : MetadataVersion) → is_some (metadata_version (number_of_version version)) ≡ true
version_read versions.V4 = refl
version_read versions.V5 = refl

sound_header : (types : TypeSet) (max n : ℕ) (version : MetadataVersion) (x : PlainHeader) → IsHeader x → leaves_header_out types x ≡ false → n ≤ max → n < 2 ^ 63
    → fault_of max (message_parts types (record { version = version; header = x; body_len = n })) ≡ None
sound_header types max n version (schema s) h within low small =
    let read = version_read version in
    let fields = s.fields in
    let is = h.0.schema in
    let length = good_length max n low small in
    let lacks = lacks_none types fields s.notes in
    let supported = all_supported types fields s.notes ∙ within in
    let fitting = all_fitting types fields s.notes h.1.fields_are is.bounded.flawless within in
    let again = fields_again types fields s.notes h.1.fields_are is.bounded.flawless within in
    let flat : is_nested (fields_from (field_trees types fields s.notes)) ≡ false = ap is_nested again ∙ is.bounded.flat in
    let shared : types_differ (dictionary_fields (fields_from (field_trees types fields s.notes))) ≡ false = ap (λ fs. types_differ (dictionary_fields fs)) again ∙ none_differ (dictionary_fields fields) is.one_type in
    let lacks_noted = metadata_pass lacks_table (λ xs. refl) s.pairs in
    let supported_noted = metadata_pass is_unsupported (λ xs. refl) s.pairs in
    let fitting_noted = metadata_pass is_misfit (λ xs. refl) s.pairs in
    rw (read, length, lacks, supported, fitting, flat, shared, lacks_noted, supported_noted, fitting_noted) refl
sound_header types max n version (dictionary id delta b) h within low small =
    let read = version_read version in
    let length = good_length max n low small in
    rw (read, length) refl
sound_header types max n version (batch b) h within low small =
    let read = version_read version in
    let length = good_length max n low small in
    rw (read, length) refl

-- A message whose body keeps to the limit has no fault.
pub sound : (types : TypeSet) (max : ℕ) (m : PlainMessage) → IsHeader m.header → leaves_header_out types m.header ≡ false → m.body_len ≤ max → m.body_len < 2 ^ 63 → fault_of max (message_parts types m) ≡ None
sound types max m h within low small = sound_header types max m.body_len m.version m.header h within low small

-- a condition that does not hold, since there is no fault
passed_by : (b : Bool) (fault : MetaFault) (rest : Option MetaFault) → (if b then Some fault else rest) ≡ None → (b ≡ false) × (rest ≡ None)
passed_by true fault rest h = absurd (cc)
passed_by false fault rest h = (refl, h)

within_header : (types : TypeSet) (max n : ℕ) (version : MetadataVersion) (x : PlainHeader)
    → fault_of max (message_parts types (record { version = version; header = x; body_len = n })) ≡ None → leaves_header_out types x ≡ false
within_header types max n version (schema s) h =
    let xs = message_parts types (record { version = version; header = schema s; body_len = n }) in
    let a = passed_by (any_in lacks_table xs) Metadata _ h in
    let b = passed_by (not (is_some (version_in xs))) Version _ a.1 in
    let c = passed_by (not (is_some (header_in xs))) Header _ b.1 in
    let d = passed_by (is_bad_length max (body_of xs)) BodyLength _ c.1 in
    let e = passed_by (is_unsupported_schema (header_tree types (schema s))) (Unsupported n) _ d.1 in
    let own = or_parts (any is_unsupported (header_tree types (schema s))) _ e.0 in
    let fields = or_parts (any_in is_unsupported (field_trees types s.fields s.notes)) _ own.0 in
    sym (all_supported types s.fields s.notes) ∙ fields.0
within_header types max n version (dictionary id delta b) h = refl
within_header types max n version (batch b) h = refl

-- If a message has no fault, the set leaves none of its types out.
pub within_types : (types : TypeSet) (max : ℕ) (m : PlainMessage) → fault_of max (message_parts types m) ≡ None → leaves_header_out types m.header ≡ false
within_types types max m h = within_header types max m.body_len m.version m.header h
