-- From the tests before a message is built, and from building it, to the least fault.
use Rattle.std.proofs.Common.{◌≡◌, ℕ, ◌≤◌, Bool, true, false, ◌||◌, not, if◌then◌else◌, nat_lt, List, [], ◌∷◌, Option, Some, None, is_some, Result, Ok, Err, ◌⊎◌, inl, inr, refl, sym, ap, ◌∙◌, subst, true≢false, arith}
use Rattle.std.proofs.lemmas.Bool.{le-ltb, ltb-false}
use Rattle.arrow_flatbuf.specs.Place.{◌>>=◌}
use Rattle.arrow_types.specs.Field.{levels, count}
use Rattle.arrow_types.specs.Notes.{pair_count}
use Rattle.arrow_types.specs.Schema.{fault_of as schema_fault_of, is_nested, some_flawed, types_differ, dictionary_fields}
use Rattle.arrow_types.specs.declared.fault.SchemaFault.{SchemaFault}
use Rattle.arrow_types.specs.declared.fault.SchemaFault.TheVariants as schema_faults
use Rattle.arrow_meta_tree.specs.declared.codes.HeaderKind.{HeaderKind}
use Rattle.arrow_meta_tree.specs.declared.codes.HeaderKind.TheVariants as headers
use Rattle.arrow_meta_tree.specs.declared.fault.BatchKind.{BatchKind}
use Rattle.arrow_meta_tree.specs.declared.fault.BatchKind.TheVariants as batches
use Rattle.arrow_meta_tree.specs.declared.fault.MetaFault.{MetaFault}
use Rattle.arrow_meta_tree.specs.declared.fault.MetaFault.TheVariants.{Metadata, Version, Header, BodyLength, Unsupported, Schema, Compressed, Memory}
use Rattle.arrow_meta_reader.specs.declared.message.Message.{Message}
use Rattle.arrow_meta_reader.specs.declared.message.MetadataVersion.{MetadataVersion}
use Rattle.arrow_meta_reader.specs.Built.{BuildsMessage, FailsToBuild, Late}
use Rattle.arrow_meta_schema.specs.Conditions.{any, any_in, is_misfit, is_unsupported, lacks_table}
use Rattle.arrow_meta_reader.specs.Faults.{least, header_conditions, fault_of, version_in, header_in, header_of, data_of, body_of, is_bad_length, is_compressed, is_unsupported_schema, shares_an_id}
use Rattle.arrow_meta_reader.specs.Judges.{AsksMemory, Judges, LengthFits}
use Rattle.arrow_meta_reader.specs.Means.{PlainMessage, Means, message_by, message_view}
use Rattle.arrow_meta_tree.specs.Parts.{parts}
use Rattle.arrow_meta_schema.specs.SchemaMeaning.{schema_fields, schema_in}
use Rattle.arrow_meta_tree.specs.Trees.{Tree, leaf, table, tables, Trees}
use Rattle.arrow_meta_tree.specs.Within.{IsShallow}
use Rattle.std.proofs.lemmas.Bool.{or_right, or_parts}
use Rattle.arrow_meta_schema.proofs.Flawless.{flawless_in}
use Rattle.arrow_meta_schema.proofs.Shallow.{schema_levels, schema_count, schema_pair_count}

-- the faults that come before those of a header, by the truth values of their conditions
abbrev early : Bool → Bool → Bool → Bool → Option MetaFault
early lacks version header length = least ((lacks, Metadata) ∷ (version, Version) ∷ (header, Header) ∷ (length, BodyLength) ∷ [])

-- the first fault if there is one, else the other
abbrev first_of : Option MetaFault → Option MetaFault → Option MetaFault
first_of (Some f) other = Some f
first_of None other = other

-- the faults that come before those of the header of a message with these fields
abbrev early_of : ℕ → Trees → Option MetaFault
early_of max xs = early (any_in lacks_table xs) (not (is_some (version_in xs))) (not (is_some (header_in xs))) (is_bad_length max (body_of xs))

-- the faults of the header of a message with these fields
abbrev own_of : Trees → Option MetaFault
own_of xs = least (header_conditions (header_in xs) (body_of xs) (header_of xs))

split : (a b c d : Bool) (own : List (Bool × MetaFault)) → least ((a, Metadata) ∷ (b, Version) ∷ (c, Header) ∷ (d, BodyLength) ∷ own) ≡ first_of (early a b c d) (least own)
split true b c d own = refl
split false true c d own = refl
split false false true d own = refl
split false false false true own = refl
split false false false false own = refl

-- the least fault comes before those of the header, or is one of them
parted : (max : ℕ) (xs : Trees) → fault_of max xs ≡ first_of (early_of max xs) (own_of xs)
parted max xs =
    split (any_in lacks_table xs) (not (is_some (version_in xs))) (not (is_some (header_in xs))) (is_bad_length max (body_of xs))
    (header_conditions (header_in xs) (body_of xs) (header_of xs))

first_some : (r own : Option MetaFault) (f : MetaFault) → first_of r own ≡ Some f → (r ≡ Some f) ⊎ ((r ≡ None) × (own ≡ Some f))
first_some (Some g) own f h = inl h
first_some None own f h = inr (refl, h)

first_none : (r own : Option MetaFault) → first_of r own ≡ None → (r ≡ None) × (own ≡ None)
first_none (Some g) own h = absurd (cc)
first_none None own h = (refl, h)

-- the faults of a schema, by the truth values of their conditions
abbrev schema_chain : Bool → Bool → Bool → ℕ → Option MetaFault
schema_chain unsupported misfit shares n = least ((unsupported, Unsupported n) ∷ (misfit || shares, Schema n) ∷ [])

schema_never : (u m shares : Bool) (n : ℕ) → schema_chain u m shares n ≡ Some Memory → ⊥
schema_never true m shares n h = cc
schema_never false true shares n h = cc
schema_never false false true n h = cc
schema_never false false false n h = cc

schema_passed : (u m shares : Bool) (n : ℕ) → schema_chain u m shares n ≡ None → (u ≡ false) × (m ≡ false) × (shares ≡ false)
schema_passed true m shares n h = absurd (cc)
schema_passed false true shares n h = absurd (cc)
schema_passed false false true n h = absurd (cc)
schema_passed false false false n h = (refl, refl, refl)

batch_never : (compressed : Bool) (k : BatchKind) (n : ℕ) → least ((compressed, Compressed k n) ∷ []) ≡ Some Memory → ⊥
batch_never true k n h = cc
batch_never false k n h = cc

own_never : (kind : Option HeaderKind) (n : ℕ) (x : Tree) → least (header_conditions kind n x) ≡ Some Memory → ⊥
own_never None n x h = cc
own_never (Some headers.Schema) n x h = schema_never (is_unsupported_schema x) (any is_misfit x) (shares_an_id x) n h
own_never (Some headers.DictionaryBatch) n x h = batch_never (is_compressed (data_of (parts x))) batches.Dictionary n h
own_never (Some headers.RecordBatch) n x h = batch_never (is_compressed (parts x)) batches.Record n h

early_never : (a b c d : Bool) → early a b c d ≡ Some Memory → ⊥
early_never true b c d h = cc
early_never false true c d h = cc
early_never false false true d h = cc
early_never false false false true h = cc
early_never false false false false h = cc

-- no condition has the fault `Memory`
never : (max : ℕ) (xs : Trees) → fault_of max xs ≡ Some Memory → ⊥
never max xs h = elim (first_some (early_of max xs) (own_of xs) Memory (sym (parted max xs) ∙ h)) [
  | inl before ↦ early_never (any_in lacks_table xs) (not (is_some (version_in xs))) (not (is_some (header_in xs))) (is_bad_length max (body_of xs)) before
  | inr own ↦ own_never (header_in xs) (body_of xs) (header_of xs) own.1
]

answered : (fault : MetaFault) (max : ℕ) (x : Tree) → (fault ≡ Memory → ⊥) → fault_of max (parts x) ≡ Some fault → Judges (Err fault) max x
answered Metadata max x never h = h
answered Version max x never h = h
answered Header max x never h = h
answered BodyLength max x never h = h
answered (Unsupported n) max x never h = h
answered (Schema n) max x never h = h
answered (Compressed k n) max x never h = h
answered Memory max x never h = absurd (never refl)

-- a fault that was found before the message was built
pub refused : (fault : MetaFault) (max : ℕ) (x : Tree) → fault_of max (parts x) ≡ Some fault → Judges (Err fault) max x
refused fault max x found = answered fault max x (λ e. never max (parts x) (subst (λ f. fault_of max (parts x) ≡ Some f) e found)) found

-- the fields' own faults, by their truth values
abbrev fields_chain : Bool → Bool → Bool → Bool → Bool → Bool → Bool → Bool → Option SchemaFault
fields_chain deep many nested differ wide noted unmapped decimal =
    if deep then Some schema_faults.TooDeep else
    (if many then Some schema_faults.TooManyFields else
    (if nested then Some schema_faults.NestedDictionary else
    (if differ then Some schema_faults.SharedIdTypesDiffer else
    (if wide then Some schema_faults.ByteWidth else
    (if noted then Some schema_faults.TooManyPairs else
    (if unmapped then Some schema_faults.MapEntries else
    (if decimal then Some schema_faults.DecimalRange else None)))))))

fields_differ : (a b c d e f g h : Bool) (fault : SchemaFault) → a ≡ false → b ≡ false → c ≡ false → e ≡ false → f ≡ false → g ≡ false → h ≡ false → fields_chain a b c d e f g h ≡ Some fault
    → (fault ≡ schema_faults.SharedIdTypesDiffer) × (d ≡ true)
fields_differ false false false true e f g h fault p q r s t u v found = (cc, refl)
fields_differ false false false false false false false false fault p q r s t u v found = absurd (cc)
fields_differ false false false false false false false true fault p q r s t u v found = absurd (true≢false v)
fields_differ false false false false false false true h fault p q r s t u v found = absurd (true≢false u)
fields_differ false false false false false true g h fault p q r s t u v found = absurd (true≢false t)
fields_differ false false false false true f g h fault p q r s t u v found = absurd (true≢false s)
fields_differ true b c d e f g h fault p q r s t u v found = absurd (true≢false p)
fields_differ a true c d e f g h fault p q r s t u v found = absurd (true≢false q)
fields_differ a b true d e f g h fault p q r s t u v found = absurd (true≢false r)

misfit_parts : (x : Tree) → any_in is_misfit (parts x) ≡ true → any is_misfit x ≡ true
misfit_parts (leaf x) h = absurd (true≢false (sym h))
misfit_parts (table kind xs) h = or_right (is_misfit kind xs) (any_in is_misfit xs) h
misfit_parts (tables xs) h = absurd (true≢false (sym h))

-- the fault of fields that passed the earlier tests
fields_fault : (x : Tree) (fault : SchemaFault) → IsShallow x → is_unsupported_schema (header_of (parts x)) ≡ false
    → any is_misfit (header_of (parts x)) ≡ false → schema_fault_of (schema_in (parts (header_of (parts x)))) ≡ Some fault
    → (fault ≡ schema_faults.SharedIdTypesDiffer) × (shares_an_id (header_of (parts x)) ≡ true)
fields_fault x fault shallow supported fitting h =
    let header = header_of (parts x) in
    let fields = schema_fields (parts header) in
    let deep : levels fields ≤ 32 = omega (arith, schema_levels x 2, shallow.levels_within) in
    let many : count fields ≤ 65536 = omega (arith, schema_count x 2, shallow.visits_within) in
    let noted : pair_count (schema_in (parts header)) ≤ 65536 = omega (arith, schema_pair_count x 2, shallow.entries_within) in
    fields_differ (nat_lt 32 (levels fields)) (nat_lt 65536 (count fields)) (is_nested fields) (types_differ (dictionary_fields fields)) (some_flawed schema_faults.ByteWidth fields)
    (nat_lt 65536 (pair_count (schema_in (parts header)))) (some_flawed schema_faults.MapEntries fields) (some_flawed schema_faults.DecimalRange fields) fault
    (le-ltb 32 (levels fields) deep) (le-ltb 65536 (count fields) many) ((or_parts (any is_unsupported header) (is_nested fields) supported).1)
    (flawless_in schema_faults.ByteWidth 1 header fitting) (le-ltb 65536 (pair_count (schema_in (parts header))) noted)
    (flawless_in schema_faults.MapEntries 1 header fitting) (flawless_in schema_faults.DecimalRange 1 header fitting) h

-- If no fault holds of a tree, building its schema fails only if an allocation fails.
late : (e : MetaFault) (max : ℕ) (x : Tree) → fault_of max (parts x) ≡ None → header_in (parts x) ≡ Some headers.Schema → IsShallow x
    → Late e (body_of (parts x)) (parts (header_of (parts x))) → Judges (Err e) max x
late e max x none_found is shallow failed =
    let xs = parts x in
    let header = header_of xs in
    let clear = first_none (early_of max xs) (own_of xs) (sym (parted max xs) ∙ none_found) in
    let own : schema_chain (is_unsupported_schema header) (any is_misfit header) (shares_an_id header) (body_of xs) ≡ None =
    ap (λ kind. least (header_conditions kind (body_of xs) header)) (sym is) ∙ clear.1 in
    let fits = schema_passed (is_unsupported_schema header) (any is_misfit header) (shares_an_id header) (body_of xs) own in
    elim failed [
      | inl memory ↦ subst (λ f. Judges (Err f) max x) (sym memory.0) (none_found, subst (λ kind. AsksMemory kind (parts header)) (sym is) memory.1)
      | inr (inl misfit) ↦ absurd (true≢false (sym (misfit_parts header misfit) ∙ fits.1))
      | inr (inr found) ↦ absurd (true≢false (sym (fields_fault x found.0 shallow fits.0 fits.1 found.1).1 ∙ fits.2))
    ]

-- a fault that occurs while a header is built
failed : (kind : HeaderKind) (e : MetaFault) (max : ℕ) (x : Tree) → fault_of max (parts x) ≡ None → header_in (parts x) ≡ Some kind → IsShallow x
    → FailsToBuild kind e (body_of (parts x)) (parts (header_of (parts x))) → Judges (Err e) max x
failed headers.Schema e max x none_found is shallow h = late e max x none_found is shallow h
failed headers.DictionaryBatch e max x none_found is shallow h =
    subst (λ f. Judges (Err f) max x) (sym h.0) (none_found, subst (λ kind. AsksMemory kind (parts (header_of (parts x)))) (sym is) h.1)
failed headers.RecordBatch e max x none_found is shallow h =
    subst (λ f. Judges (Err f) max x) (sym h.0) (none_found, subst (λ kind. AsksMemory kind (parts (header_of (parts x)))) (sym is) h.1)

-- the message that was built, or the fault that occurred while it was built
pub built : (r : Result Message MetaFault) (version : MetadataVersion) (kind : HeaderKind) (max : ℕ) (x : Tree) → IsShallow x → version_in (parts x) ≡ Some version
    → header_in (parts x) ≡ Some kind → fault_of max (parts x) ≡ None → BuildsMessage r version kind (parts x) → Judges r max x
built (Ok m) version kind max x shallow read is none_found h = record { sound = none_found; same = rw (read, is) (ap Some (sym h)) }
built (Err e) version kind max x shallow read is none_found h = failed kind e max x none_found is shallow h

-- the body's length that a fault gives
abbrev reports : MetaFault → ℕ → Type 0
reports (Unsupported m) n = m ≡ n
reports (Schema m) n = m ≡ n
reports (Compressed k m) n = m ≡ n
reports Metadata n = ⊥
reports Version n = ⊥
reports Header n = ⊥
reports BodyLength n = ⊥
reports Memory n = ⊥

early_reports : (a b c d : Bool) (f : MetaFault) (given : ℕ) → early a b c d ≡ Some f → reports f given → ⊥
early_reports true b c d f given h t = let same : Metadata ≡ f = cc in subst (λ f. reports f given) (sym same) t
early_reports false true c d f given h t = let same : Version ≡ f = cc in subst (λ f. reports f given) (sym same) t
early_reports false false true d f given h t = let same : Header ≡ f = cc in subst (λ f. reports f given) (sym same) t
early_reports false false false true f given h t = let same : BodyLength ≡ f = cc in subst (λ f. reports f given) (sym same) t
early_reports false false false false f given h t = cc

schema_reports : (u m shares : Bool) (n : ℕ) (f : MetaFault) (given : ℕ) → schema_chain u m shares n ≡ Some f → reports f given → given ≡ n
schema_reports true m shares n f given h t = let same : Unsupported n ≡ f = cc in sym (subst (λ f. reports f given) (sym same) t)
schema_reports false true shares n f given h t = let same : Schema n ≡ f = cc in sym (subst (λ f. reports f given) (sym same) t)
schema_reports false false true n f given h t = let same : Schema n ≡ f = cc in sym (subst (λ f. reports f given) (sym same) t)
schema_reports false false false n f given h t = absurd (cc)

batch_reports : (compressed : Bool) (k : BatchKind) (n : ℕ) (f : MetaFault) (given : ℕ) → least ((compressed, Compressed k n) ∷ []) ≡ Some f → reports f given → given ≡ n
batch_reports true k n f given h t = let same : Compressed k n ≡ f = cc in sym (subst (λ f. reports f given) (sym same) t)
batch_reports false k n f given h t = absurd (cc)

-- the length that a header's fault gives is the body's
own_reports : (kind : Option HeaderKind) (n : ℕ) (x : Tree) (f : MetaFault) (given : ℕ) → least (header_conditions kind n x) ≡ Some f → reports f given → given ≡ n
own_reports None n x f given h t = absurd (cc)
own_reports (Some headers.Schema) n x f given h t = schema_reports (is_unsupported_schema x) (any is_misfit x) (shares_an_id x) n f given h t
own_reports (Some headers.DictionaryBatch) n x f given h t = batch_reports (is_compressed (data_of (parts x))) batches.Dictionary n f given h t
own_reports (Some headers.RecordBatch) n x f given h t = batch_reports (is_compressed (parts x)) batches.Record n f given h t

early_length : (a b c d : Bool) → early a b c d ≡ None → d ≡ false
early_length a b c false h = refl
early_length true b c true h = absurd (cc)
early_length false true c true h = absurd (cc)
early_length false false true true h = absurd (cc)
early_length false false false true h = absurd (cc)

good_length : (max n : ℕ) → is_bad_length max n ≡ false → n ≤ max
good_length max n h = ltb-false max n ((or_parts (nat_lt 9223372036854775807 n) (nat_lt max n) h).1)

-- If no fault comes before those of the header, the body is within the limit.
clear_length : (max : ℕ) (xs : Trees) → early_of max xs ≡ None → body_of xs ≤ max
clear_length max xs h =
    good_length max (body_of xs)
    (early_length (any_in lacks_table xs) (not (is_some (version_in xs))) (not (is_some (header_in xs))) (is_bad_length max (body_of xs)) h)

given_length : (max : ℕ) (xs : Trees) (f : MetaFault) (given : ℕ) → fault_of max xs ≡ Some f → reports f given → given ≤ max
given_length max xs f given h t = elim (first_some (early_of max xs) (own_of xs) f (sym (parted max xs) ∙ h)) [
  | inl before ↦ absurd (early_reports (any_in lacks_table xs) (not (is_some (version_in xs))) (not (is_some (header_in xs))) (is_bad_length max (body_of xs)) f given before t)
  | inr own ↦ omega (arith, own_reports (header_in xs) (body_of xs) (header_of xs) f given own.1 t, clear_length max xs own.0)
]

-- If no fault holds of a tree, its body is within the limit: no message has a longer one.
pub sound_length : (max : ℕ) (xs : Trees) → fault_of max xs ≡ None → body_of xs ≤ max
sound_length max xs h = clear_length max xs ((first_none (early_of max xs) (own_of xs) (sym (parted max xs) ∙ h)).0)

said_length : (xs : Trees) (version : Option MetadataVersion) (kind : Option HeaderKind) (m : PlainMessage)
    → version >>= (λ v. kind >>= (λ k. Some (message_by xs v k))) ≡ Some m → m.body_len ≡ body_of xs
said_length xs None kind m h = absurd (cc)
said_length xs (Some version) None m h = absurd (cc)
said_length xs (Some version) (Some kind) m h = let same : message_by xs version kind ≡ m = cc in ap (λ (m : PlainMessage). m.body_len) (sym same)

-- The body of a message that a tree means is within the limit.
pub meaning_length : (max : ℕ) (x : Tree) (m : PlainMessage) → Means max x m → m.body_len ≤ max
meaning_length max x m h = omega (arith, said_length (parts x) (version_in (parts x)) (header_in (parts x)) m h.same, sound_length max (parts x) h.sound)

-- the length of the body in a result is at most the limit
pub length_fits : (r : Result Message MetaFault) (max : ℕ) (x : Tree) → Judges r max x → LengthFits r max
length_fits (Ok m) max x h = meaning_length max x (message_view m) h
length_fits (Err (Unsupported n)) max x h = given_length max (parts x) (Unsupported n) n h refl
length_fits (Err (Schema n)) max x h = given_length max (parts x) (Schema n) n h refl
length_fits (Err (Compressed k n)) max x h = given_length max (parts x) (Compressed k n) n h refl
length_fits (Err Metadata) max x h = tt
length_fits (Err Version) max x h = tt
length_fits (Err Header) max x h = tt
length_fits (Err BodyLength) max x h = tt
length_fits (Err Memory) max x h = tt
