-- How the logic stores plain types and fields: as trees of numbers, different values as different trees.
use Rattle.std.specs.Prelude.{◌≡◌, ℕ, Bool, List, Option}
use Rattle.std.proofs.Common.{ap, refl}
use Rattle.std.specs.Coded.{Coded, code_by, coded×, coded_ℕ, coded_ℤ, coded_bool, coded_list, coded_option}
use base.Stored.{Gv, gnil, gnum, gcons}
use Rattle.arrow_types.specs.declared.field.Encoding.{Encoding}
use Rattle.arrow_types.specs.contracts.data_type.BitWidth.{the_row as width_row}
use Rattle.arrow_types.specs.contracts.data_type.DateUnit.{the_row as date_row}
use Rattle.arrow_types.specs.contracts.data_type.DecimalWidth.{the_row as decimal_row}
use Rattle.arrow_types.specs.contracts.data_type.IntervalUnit.{the_row as interval_row}
use Rattle.arrow_types.specs.contracts.data_type.Precision.{the_row as precision_row}
use Rattle.arrow_types.specs.contracts.data_type.TimeUnit.{the_row as time_row}
use Rattle.arrow_types.specs.contracts.field.Encoding.{the_row as encoding_row}
use Rattle.arrow_types.specs.DataType.{TypeId}
use Rattle.arrow_types.specs.DataType as tags
use Rattle.arrow_types.specs.Field.{FieldHeader, FieldTree, none, more, TypeShape, FieldShape}
use Rattle.arrow_types.specs.Notes.{KeyValue, Notes, unnoted, noted, FieldNotes, SchemaShape}

-- the name of a time zone, or that there is none
abbrev zone_code : Coded (Option (List ℕ))
zone_code = coded_option (coded_list coded_ℕ)

-- the tree of a tag: a number for each kind of type, with what the kind holds
abbrev tag_gv : TypeId → Gv
tag_gv tags.null = gnum 0
tag_gv tags.boolean = gnum 1
tag_gv tags.binary = gnum 2
tag_gv tags.utf8 = gnum 3
tag_gv tags.list = gnum 4
tag_gv tags.struct = gnum 5
tag_gv tags.large_binary = gnum 6
tag_gv tags.large_utf8 = gnum 7
tag_gv tags.large_list = gnum 8
tag_gv (tags.int bits signed) = gcons (gnum 0) (gcons (width_row.coded.code bits) (coded_bool.code signed))
tag_gv (tags.date unit) = gcons (gnum 1) (date_row.coded.code unit)
tag_gv (tags.time unit) = gcons (gnum 2) (time_row.coded.code unit)
tag_gv (tags.timestamp unit zone) = gcons (gnum 3) (gcons (time_row.coded.code unit) (zone_code.code zone))
tag_gv (tags.duration unit) = gcons (gnum 4) (time_row.coded.code unit)
tag_gv (tags.fixed_size_binary width) = gcons (gnum 5) (coded_ℕ.code width)
tag_gv (tags.floating_point precision) = gcons (gnum 6) (precision_row.coded.code precision)
tag_gv (tags.interval unit) = gcons (gnum 7) (interval_row.coded.code unit)
tag_gv (tags.map sorted) = gcons (gnum 8) (coded_bool.code sorted)
tag_gv (tags.decimal width precision scale) = gcons (gnum 9) (gcons (decimal_row.coded.code width) (gcons (coded_ℕ.code precision) (coded_ℤ.code scale)))
tag_gv (tags.fixed_size_list size) = gcons (gnum 10) (coded_ℕ.code size)

-- tags with equal trees are equal
pub tag_inj : (x y : TypeId) → tag_gv x ≡ tag_gv y → x ≡ y
tag_inj tags.null tags.null p = refl
tag_inj tags.boolean tags.boolean p = refl
tag_inj tags.binary tags.binary p = refl
tag_inj tags.utf8 tags.utf8 p = refl
tag_inj tags.list tags.list p = refl
tag_inj tags.struct tags.struct p = refl
tag_inj tags.large_binary tags.large_binary p = refl
tag_inj tags.large_utf8 tags.large_utf8 p = refl
tag_inj tags.large_list tags.large_list p = refl
tag_inj (tags.int a s) (tags.int b t) p = λ i. tags.int (width_row.coded.inj a b (cc) i) (coded_bool.inj s t (cc) i)
tag_inj (tags.date u) (tags.date v) p = ap tags.date (date_row.coded.inj u v (cc))
tag_inj (tags.time u) (tags.time v) p = ap tags.time (time_row.coded.inj u v (cc))
tag_inj (tags.timestamp u x) (tags.timestamp v y) p = λ i. tags.timestamp (time_row.coded.inj u v (cc) i) (zone_code.inj x y (cc) i)
tag_inj (tags.duration u) (tags.duration v) p = ap tags.duration (time_row.coded.inj u v (cc))
tag_inj (tags.fixed_size_binary m) (tags.fixed_size_binary n) p = ap tags.fixed_size_binary (coded_ℕ.inj m n (cc))
tag_inj (tags.floating_point a) (tags.floating_point b) p = ap tags.floating_point (precision_row.coded.inj a b (cc))
tag_inj (tags.interval u) (tags.interval v) p = ap tags.interval (interval_row.coded.inj u v (cc))
tag_inj (tags.map a) (tags.map b) p = ap tags.map (coded_bool.inj a b (cc))
tag_inj (tags.decimal v m x) (tags.decimal w n y) p = λ i. tags.decimal (decimal_row.coded.inj v w (cc) i) (coded_ℕ.inj m n (cc) i) (coded_ℤ.inj x y (cc) i)
tag_inj (tags.fixed_size_list m) (tags.fixed_size_list n) p = ap tags.fixed_size_list (coded_ℕ.inj m n (cc))
tag_inj x y p = cc

-- so these trees distinguish tags
abbrev pub tag_code : Coded TypeId
tag_code = record { code = tag_gv; inj = tag_inj }

-- a head is determined by its name, nullability, type and encoding
abbrev pub head_code : Coded FieldHeader
head_code = code_by (List ℕ × (Bool × (TypeId × Option Encoding)))
    (coded× (coded_list coded_ℕ) (coded× coded_bool (coded× tag_code (coded_option encoding_row.coded))))
    (λ h. (h.name, (h.nullable, (h.tag, h.encoding))))
    (λ p. record { name = p.0; nullable = p.1.0; tag = p.1.1.0; encoding = p.1.1.1 })
    (λ _. refl)

-- the tree of fields: the first head, the fields below it, and the fields after it
abbrev pub fields_gv : FieldTree → Gv
fields_gv none = gnil
fields_gv (more head children rest) = gcons (head_code.code head) (gcons (fields_gv children) (fields_gv rest))

-- fields with equal trees are equal
pub fields_inj : (x y : FieldTree) → fields_gv x ≡ fields_gv y → x ≡ y
fields_inj none none p = refl
fields_inj (more h b r) (more h' b' r') p = λ i. more (head_code.inj h h' (cc) i) (fields_inj b b' (cc) i) (fields_inj r r' (cc) i)
fields_inj x y p = cc

-- so these trees distinguish fields
abbrev pub fields_code : Coded FieldTree
fields_code = record { code = fields_gv; inj = fields_inj }

-- a type is determined by its tag and its children
abbrev pub type_code : Coded TypeShape
type_code = code_by (TypeId × FieldTree) (coded× tag_code fields_code)
    (λ t. (t.tag, t.children)) (λ p. record { tag = p.0; children = p.1 }) (λ _. refl)

-- one field is determined by its head and its children
abbrev pub field_code : Coded FieldShape
field_code = code_by (FieldHeader × FieldTree) (coded× head_code fields_code)
    (λ f. (f.head, f.children)) (λ p. record { head = p.0; children = p.1 }) (λ _. refl)

-- a pair is determined by its key and its value
abbrev pub pair_code : Coded KeyValue
pair_code = code_by (List ℕ × List ℕ) (coded× (coded_list coded_ℕ) (coded_list coded_ℕ))
    (λ p. (p.key, p.value)) (λ p. record { key = p.0; value = p.1 }) (λ _. refl)

-- and a list of pairs by its pairs
abbrev pub pairs_code : Coded (List KeyValue)
pairs_code = coded_list pair_code

-- the tree of custom metadata: the first field's pairs, the metadata of the fields below it, and those of the fields
-- after it
abbrev pub notes_gv : Notes → Gv
notes_gv unnoted = gnil
notes_gv (noted pairs below rest) = gcons (pairs_code.code pairs) (gcons (notes_gv below) (notes_gv rest))

-- custom metadata with equal trees are equal
pub notes_inj : (x y : Notes) → notes_gv x ≡ notes_gv y → x ≡ y
notes_inj unnoted unnoted p = refl
notes_inj (noted n b r) (noted n' b' r') p = λ i. noted (pairs_code.inj n n' (cc) i) (notes_inj b b' (cc) i) (notes_inj r r' (cc) i)
notes_inj x y p = cc

-- so these trees distinguish custom metadata
abbrev pub notes_code : Coded Notes
notes_code = record { code = notes_gv; inj = notes_inj }

-- the custom metadata of one field are determined by its pairs and the metadata of the fields below it
abbrev pub field_notes_code : Coded FieldNotes
field_notes_code = code_by (List KeyValue × Notes) (coded× pairs_code notes_code)
    (λ n. (n.pairs, n.below)) (λ p. record { pairs = p.0; below = p.1 }) (λ _. refl)

-- a schema is determined by its fields, its pairs and the custom metadata of its fields
abbrev pub schema_code : Coded SchemaShape
schema_code = code_by (FieldTree × (List KeyValue × Notes)) (coded× fields_code (coded× pairs_code notes_code))
    (λ s. (s.fields, (s.pairs, s.notes))) (λ p. record { fields = p.0; pairs = p.1.0; notes = p.1.1 }) (λ _. refl)

-- everything that a type holds
abbrev pub whole_type_code : Coded (TypeShape × Notes)
whole_type_code = coded× type_code notes_code

-- everything that a field holds
abbrev pub whole_field_code : Coded (FieldShape × FieldNotes)
whole_field_code = coded× field_code field_notes_code
