-- If no table of a tree is a misfit, no fault of a type by itself applies to a field that the tree describes.
use Rattle.std.proofs.Common.{◌≡◌, ℕ, zero, suc, Bool, true, false, not, nat_lt, if◌then◌else◌, Option, Some, None, refl, ap}
use Rattle.std.specs.Option.{unwrap_or}
use Rattle.std.proofs.lemmas.Bool.{or_from, or_parts}
use Rattle.arrow_types.specs.Field.{FieldTree, width}
use Rattle.arrow_types.specs.Schema.{is_bad_decimal, is_flawed, is_wide, lacks_entries, some_flawed}
use Rattle.arrow_types.specs.declared.fault.SchemaFault.{SchemaFault}
use Rattle.arrow_types.specs.declared.fault.SchemaFault.TheVariants.{ByteWidth, MapEntries, DecimalRange}
use Rattle.arrow_meta_tree.specs.declared.codes.TypeCode.{TypeCode}
use Rattle.arrow_meta_tree.specs.declared.codes.TypeCode.TheVariants as codes
use Rattle.arrow_meta_tree.specs.declared.kinds.TableKind.{TableKind}
use Rattle.arrow_meta_tree.specs.declared.kinds.TableKind.TheVariants as kinds
use Rattle.arrow_meta_schema.specs.Conditions.{any, any_in, children_fit, entries_fit, is_misfit}
use Rattle.arrow_meta_tree.specs.Types.{type_code}
use Rattle.arrow_meta_tree.specs.Parts.{nth, parts, number_at}
use Rattle.arrow_meta_schema.specs.SchemaMeaning.{tag_by, fields_in, fields_from, with_field, fields_at}
use Rattle.arrow_meta_tree.specs.Trees.{Tree, leaf, table, tables, Trees, none, more}
use Rattle.arrow_meta_schema.proofs.Decimals.{of_table}

-- a number of bytes, or of values, is either not a valid size or within the limit
kept : (n : ℕ) (b : Bool) → nat_lt 2147483647 n ≡ b → nat_lt 2147483647 (unwrap_or (if b then None else Some n) 0) ≡ false
kept n true h = refl
kept n false h = h

narrow_tag : (code : Option TypeCode) (xs : Trees) → is_wide (tag_by code xs) ≡ false
narrow_tag None xs = refl
narrow_tag (Some codes.FixedSizeBinary) xs = kept (number_at 0 0 xs) (nat_lt 2147483647 (number_at 0 0 xs)) refl
narrow_tag (Some codes.FixedSizeList) xs = kept (number_at 0 0 xs) (nat_lt 2147483647 (number_at 0 0 xs)) refl
narrow_tag (Some codes.Decimal) xs = of_table (λ tag. is_wide tag ≡ false) (λ width precision scale h. refl) xs
narrow_tag (Some code) xs = refl

-- a type whose entries fit is not a map without entries
mapped_tag : (code : Option TypeCode) (xs : Trees) (children : FieldTree) → not (entries_fit code children) ≡ false → lacks_entries (tag_by code xs) children ≡ false
mapped_tag None xs children h = refl
mapped_tag (Some codes.Map) xs children h = h
mapped_tag (Some codes.Decimal) xs children h = of_table (λ tag. lacks_entries tag children ≡ false) (λ width precision scale allowed. refl) xs
mapped_tag (Some code) xs children h = refl

decimal_tag : (code : Option TypeCode) (xs : Trees) → is_bad_decimal (tag_by code xs) ≡ false
decimal_tag None xs = refl
decimal_tag (Some codes.Decimal) xs = of_table (λ tag. is_bad_decimal tag ≡ false) (λ width precision scale h. ap not h) xs
decimal_tag (Some code) xs = refl

flawless_tag : (fault : SchemaFault) (code : Option TypeCode) (xs : Trees) (children : FieldTree) → not (entries_fit code children) ≡ false → is_flawed fault (tag_by code xs) children ≡ false
flawless_tag ByteWidth code xs children h = narrow_tag code xs
flawless_tag MapEntries code xs children h = mapped_tag code xs children h
flawless_tag DecimalRange code xs children h = decimal_tag code xs
flawless_tag fault code xs children h = refl

mutual
  -- a fault applies to the type of no field of a vector of Field tables
  pub flawless : (fault : SchemaFault) (x : Tree) → any is_misfit x ≡ false → some_flawed fault (fields_in x) ≡ false
  flawless fault (leaf x) h = refl
  flawless fault (table kind xs) h = refl
  flawless fault (tables xs) h = flawless_from fault xs h

  flawless_from : (fault : SchemaFault) (xs : Trees) → any_in is_misfit xs ≡ false → some_flawed fault (fields_from xs) ≡ false
  flawless_from fault none h = refl
  flawless_from fault (more x xs) h =
      let both = or_parts (any is_misfit x) (any_in is_misfit xs) h in
      flawless_with fault x (fields_from xs) both.0 (flawless_from fault xs both.1)

  flawless_with : (fault : SchemaFault) (x : Tree) (rest : FieldTree) → any is_misfit x ≡ false → some_flawed fault rest ≡ false → some_flawed fault (with_field x rest) ≡ false
  flawless_with fault (leaf x) rest h k = k
  flawless_with fault (table (kinds.Field types) xs) rest h k =
      let code = type_code (number_at 2 0 xs) in
      let both = or_parts (is_misfit (kinds.Field types) xs) (any_in is_misfit xs) h in
      let own = or_parts (not (children_fit code (width (fields_in (nth 5 xs))))) (not (entries_fit code (fields_at 5 xs))) both.0 in
      or_from _ _ (or_from _ _ (flawless_tag fault code (parts (nth 3 xs)) (fields_at 5 xs) own.1) (flawless_at fault 5 xs both.1)) k
  flawless_with fault (table kind xs) rest h k = k
  flawless_with fault (tables xs) rest h k = k

  flawless_at : (fault : SchemaFault) (i : ℕ) (xs : Trees) → any_in is_misfit xs ≡ false → some_flawed fault (fields_at i xs) ≡ false
  flawless_at fault i none h = refl
  flawless_at fault zero (more x xs) h = flawless fault x ((or_parts (any is_misfit x) (any_in is_misfit xs) h).0)
  flawless_at fault (suc i) (more x xs) h = flawless_at fault i xs ((or_parts (any is_misfit x) (any_in is_misfit xs) h).1)

-- a test that no tree of a row passes is not passed in field `i`
none_nth : (test : TableKind → Trees → Bool) (i : ℕ) (xs : Trees) → any_in test xs ≡ false → any test (nth i xs) ≡ false
none_nth test i none h = refl
none_nth test zero (more x xs) h = (or_parts (any test x) (any_in test xs) h).0
none_nth test (suc i) (more x xs) h = none_nth test i xs ((or_parts (any test x) (any_in test xs) h).1)

none_parts : (test : TableKind → Trees → Bool) (x : Tree) → any test x ≡ false → any_in test (parts x) ≡ false
none_parts test (leaf x) h = refl
none_parts test (table kind xs) h = (or_parts (test kind xs) (any_in test xs) h).1
none_parts test (tables xs) h = refl

-- the same of the fields in field i of a table
pub flawless_in : (fault : SchemaFault) (i : ℕ) (x : Tree) → any is_misfit x ≡ false → some_flawed fault (fields_in (nth i (parts x))) ≡ false
flawless_in fault i x h = flawless fault (nth i (parts x)) (none_nth is_misfit i (parts x) (none_parts is_misfit x h))
