-- Fields whose types have no schema fault, piece by piece.
use Rattle.std.proofs.Common.{◌≡◌, ◌||◌, false}
use Rattle.std.proofs.lemmas.Bool.{or_parts}
use Rattle.arrow_types.specs.DataType.{TypeId}
use Rattle.arrow_types.specs.Field.{FieldTree, FieldHeader, more}
use Rattle.arrow_types.specs.Schema.{is_flawed, some_flawed}
use Rattle.arrow_types.specs.declared.fault.SchemaFault.{SchemaFault}

-- a type with these child fields has no fault
abbrev pub IsFlawless : TypeId → FieldTree → Type 0
IsFlawless tag children = (fault : SchemaFault) → is_flawed fault tag children ≡ false

-- the type of no field of these has a fault, on any level
abbrev pub AreFlawless : FieldTree → Type 0
AreFlawless fields = (fault : SchemaFault) → some_flawed fault fields ≡ false

-- the same for the first field itself
pub first_flawless : (head : FieldHeader) (children rest : FieldTree) → AreFlawless (more head children rest) → IsFlawless head.tag children
first_flawless head children rest h fault =
    let both = or_parts (is_flawed fault head.tag children || some_flawed fault children) (some_flawed fault rest) (h fault) in
    (or_parts (is_flawed fault head.tag children) (some_flawed fault children) both.0).0

-- for those below it
pub below_flawless : (head : FieldHeader) (children rest : FieldTree) → AreFlawless (more head children rest) → AreFlawless children
below_flawless head children rest h fault =
    let both = or_parts (is_flawed fault head.tag children || some_flawed fault children) (some_flawed fault rest) (h fault) in
    (or_parts (is_flawed fault head.tag children) (some_flawed fault children) both.0).1

-- and for those after it
pub rest_flawless : (head : FieldHeader) (children rest : FieldTree) → AreFlawless (more head children rest) → AreFlawless rest
rest_flawless head children rest h fault =
    (or_parts (is_flawed fault head.tag children || some_flawed fault children) (some_flawed fault rest) (h fault)).1
