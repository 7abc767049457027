-- When the tags of two types, without their children, are equal.
use Rattle.std.proofs.Common.{◌≡◌, Bool, ◌↔◌, IsTrue, Option, Some, None, refl, sym, ap, ◌∙◌}
use Rattle.std.specs.Option.{unwrap_or}
use Rattle.arrow_types.specs.Field.{FieldHeader, TypeShape}
use Rattle.arrow_meta_tree.specs.declared.codes.TypeCode.{TypeCode}
use Rattle.arrow_meta_tree.specs.declared.codes.TypeCode.TheVariants as codes
use Rattle.arrow_meta_tree.specs.Types.{code_of, type_code}
use Rattle.arrow_meta_tree.specs.Parts.{nth, parts, number_at}
use Rattle.arrow_meta_schema.specs.SchemaMeaning.{fields_at, fields_from, head_of, tag_by}
use Rattle.arrow_meta_schema.specs.Sharing.{AreLabelledAlike, code_in, tag_of, type_of}
use Rattle.arrow_meta_tree.specs.Trees.{Trees}
use Rattle.arrow_meta_schema.proofs.Decimals.{of_table}

-- a type's tag keeps its code
kept : (code : TypeCode) (xs : Trees) → code_of (tag_by (Some code) xs) ≡ code
kept codes.Null xs = refl
kept codes.Decimal xs = of_table (λ tag. code_of tag ≡ codes.Decimal) (λ width precision scale h. refl) xs
kept code xs = refl

-- a code outside the profile is read as Null
read_as : (code : Option TypeCode) (xs : Trees) → tag_by code xs ≡ tag_by (Some (unwrap_or code codes.Null)) xs
read_as None xs = refl
read_as (Some code) xs = refl

-- Tags are equal exactly if their codes and the meanings of their tables are.
pub same_tags : (xs ys : Trees) → (code_in xs ≡ code_in ys) × (tag_by (Some (code_in xs)) (parts (nth 3 xs)) ≡ tag_by (Some (code_in xs)) (parts (nth 3 ys)))
    ↔ (tag_of xs ≡ tag_of ys)
same_tags xs ys =
    let one = read_as (type_code (number_at 2 0 xs)) (parts (nth 3 xs)) in
    let other = read_as (type_code (number_at 2 0 ys)) (parts (nth 3 ys)) in (
      λ h. one ∙ h.1 ∙ ap (λ code. tag_by (Some code) (parts (nth 3 ys))) h.0 ∙ sym other,
      λ same. let alike : code_in xs ≡ code_in ys = sym (kept (code_in xs) (parts (nth 3 xs))) ∙ ap code_of (sym one ∙ same ∙ other) ∙ kept (code_in ys) (parts (nth 3 ys)) in
          (alike, sym one ∙ same ∙ other ∙ ap (λ code. tag_by (Some code) (parts (nth 3 ys))) (sym alike)),
    )

-- The same of the program's comparison, if the codes are equal.
pub same_tags_by : (xs ys : Trees) (a b : TypeCode) (one other : Trees) (r : Bool) → a ≡ code_in xs → b ≡ code_in ys → one ≡ parts (nth 3 xs) → other ≡ parts (nth 3 ys)
    → a ≡ b → (IsTrue r ↔ (tag_by (Some a) one ≡ tag_by (Some a) other)) → IsTrue r ↔ (tag_of xs ≡ tag_of ys)
same_tags_by xs ys a b one other r is_a is_b is_one is_other alike test =
    let codes : code_in xs ≡ code_in ys = sym is_a ∙ alike ∙ is_b in
    let here : tag_by (Some a) one ≡ tag_by (Some (code_in xs)) (parts (nth 3 xs)) = λ i. tag_by (Some (is_a i)) (is_one i) in
    let there : tag_by (Some a) other ≡ tag_by (Some (code_in xs)) (parts (nth 3 ys)) = λ i. tag_by (Some (is_a i)) (is_other i) in (
      λ h. (same_tags xs ys).0 (codes, sym here ∙ test.0 h ∙ there),
      λ same. test.1 (here ∙ ((same_tags xs ys).1 same).1 ∙ sym there),
    )

-- Heads are equal exactly if all of their parts are.
pub same_heads : (xs ys : Trees) → (AreLabelledAlike xs ys × (tag_of xs ≡ tag_of ys)) ↔ (head_of xs ≡ head_of ys)
same_heads xs ys = (
  λ h. λ i. record { name = h.0.0 i; nullable = h.0.1 i; tag = h.1 i; encoding = h.0.2 i },
  λ same. ((ap (λ (h : FieldHeader). h.name) same, ap (λ (h : FieldHeader). h.nullable) same, ap (λ (h : FieldHeader). h.encoding) same), ap (λ (h : FieldHeader). h.tag) same),
)

-- Types are equal exactly if their tags and their children are.
pub same_types : (xs ys : Trees) (one other : Trees) (r : Bool) → fields_from one ≡ fields_at 5 xs → fields_from other ≡ fields_at 5 ys → tag_of xs ≡ tag_of ys
    → (IsTrue r ↔ (fields_from one ≡ fields_from other)) → IsTrue r ↔ (type_of xs ≡ type_of ys)
same_types xs ys one other r here there tags test = (
  λ h. let below : fields_at 5 xs ≡ fields_at 5 ys = sym here ∙ test.0 h ∙ there in λ i. record { tag = tags i; children = below i },
  λ same. test.1 (here ∙ ap (λ (t : TypeShape). t.children) same ∙ sym there),
)
