-- Fields and pairs to which no fault applies make a schema, and conversely.
use Rattle.std.proofs.Common.{◌≡◌, ◌≤◌, ℤ, false, List, refl}
use Rattle.std.proofs.lemmas.Bool.{or_from}
use Rattle.arrow_types.proofs.Clashes.{one_type}
use Rattle.arrow_types.specs.Notes.{SchemaShape, pair_count}
use Rattle.arrow_types.specs.DataType.{TypeId}
use Rattle.arrow_types.specs.Field.{FieldTree, none, more}
use Rattle.arrow_types.specs.Schema.{dictionary_fields, AreIdsOfOneType, IsBounded, IsKept, is_flawed, some_flawed}
use Rattle.arrow_types.specs.declared.fault.SchemaFault.{SchemaFault}
use Rattle.arrow_types.specs.declared.fault.SchemaFault.TheVariants.{ByteWidth, MapEntries, DecimalRange}

-- a fault that applies to no single type applies to no fields
unflawed : (fault : SchemaFault) → ((tag : TypeId) (children : FieldTree) → is_flawed fault tag children ≡ false) → (s : FieldTree) → some_flawed fault s ≡ false
unflawed fault never none = refl
unflawed fault never (more head children rest) =
    or_from _ _ (or_from _ _ (never head.tag children) (unflawed fault never children)) (unflawed fault never rest)

-- if the three faults of a single type do not apply, no fault of a single type does
pub flawless : (s : FieldTree) → some_flawed ByteWidth s ≡ false → some_flawed MapEntries s ≡ false → some_flawed DecimalRange s ≡ false
    → (fault : SchemaFault) → some_flawed fault s ≡ false
flawless s narrow mapped decimal ByteWidth = narrow
flawless s narrow mapped decimal MapEntries = mapped
flawless s narrow mapped decimal DecimalRange = decimal
flawless s narrow mapped decimal fault = unflawed fault (λ tag children. refl) s

-- fields and pairs that pass all tests are kept with their ids
pub schema_kept : (s : SchemaShape) (ids : List ℤ) → IsBounded s.fields → AreIdsOfOneType ids (dictionary_fields s.fields) → pair_count s ≤ 65536 → IsKept ids s
schema_kept s ids bounded ids_of few = record {
  noted = record { schema = record { bounded = bounded; one_type = one_type (dictionary_fields s.fields) ids_of.one_type }; few_pairs = few };
  listed = ids_of.once;
}
