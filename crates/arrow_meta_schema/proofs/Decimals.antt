-- The meaning of a Decimal table: decimals that their width allows, whatever the table holds.
use Rattle.std.proofs.Common.{◌≡◌, ℕ, ℤ, pos, Bool, true, false, if◌then◌else◌, Option, Some, None, refl}
use Rattle.std.specs.Option.{unwrap_or}
use Rattle.arrow_types.specs.DataType as tags
use Rattle.arrow_types.specs.DataType.{TypeId, is_decimal}
use Rattle.arrow_types.specs.declared.data_type.DecimalWidth.{DecimalWidth}
use Rattle.arrow_types.specs.declared.data_type.DecimalWidth.TheVariants as decimals
use Rattle.arrow_meta_tree.specs.declared.codes.TypeCode.TheVariants as codes
use Rattle.arrow_meta_tree.specs.Codes.{decimal_scale, decimal_width}
use Rattle.arrow_meta_tree.specs.Parts.{number_at}
use Rattle.arrow_meta_schema.specs.SchemaMeaning.{tag_by}
use Rattle.arrow_meta_tree.specs.Types.{decimal_by}
use Rattle.arrow_meta_tree.specs.Trees.{Trees}

-- a property of all decimals that their width allows
abbrev pub HoldsOfDecimals : (TypeId → Type 0) → Type 0
HoldsOfDecimals P = (width : DecimalWidth) (precision : ℕ) (scale : ℤ) → is_decimal width precision scale ≡ true → P (tags.decimal width precision scale)

-- the decimals of a table whose numbers mean nothing
abbrev other : TypeId
other = tags.decimal decimals.ThirtyTwo 1 (pos 0)

of_tested : (P : TypeId → Type 0) → HoldsOfDecimals P → (width : DecimalWidth) (precision : ℕ) (scale : ℤ) (b : Bool) → is_decimal width precision scale ≡ b
    → P (unwrap_or (if b then Some (tags.decimal width precision scale) else None) other)
of_tested P holds width precision scale true h = holds width precision scale h
of_tested P holds width precision scale false h = holds decimals.ThirtyTwo 1 (pos 0) refl

of_width : (P : TypeId → Type 0) → HoldsOfDecimals P → (width : Option DecimalWidth) (precision : ℕ) (scale : ℤ) → P (unwrap_or (decimal_by width precision scale) other)
of_width P holds None precision scale = holds decimals.ThirtyTwo 1 (pos 0) refl
of_width P holds (Some width) precision scale = of_tested P holds width precision scale (is_decimal width precision scale) refl

-- the type that a Decimal table describes has the property
pub of_table : (P : TypeId → Type 0) → HoldsOfDecimals P → (xs : Trees) → P (tag_by (Some codes.Decimal) xs)
of_table P holds xs = of_width P holds (decimal_width (number_at 2 128 xs)) (number_at 0 0 xs) (decimal_scale (number_at 1 0 xs))
