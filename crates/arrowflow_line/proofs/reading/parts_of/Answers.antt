use Rattle.std.proofs.Common.{◌≡◌, ◌++◌, ◌∷◌, ◌==◌, [], ap, ap₂, sym, ◌∙◌, map, string_bytes, append_assoc, arith, rules, Bool, false, ℕ}
use Rattle.std.proofs.lemmas.List.{map-append}
use Rattle.std.proofs.lemmas.List.Elements.{All-from_get_or}
use Rattle.std.proofs.lemmas.List.Splits.{slice_split_first, slice_split_none}
use Rattle.std.proofs.lemmas.List.Sums.{fails_before_first}
use Rattle.std.specs.List.{slice_split}
use Rattle.arrowflow_line.specs.CommandLine.{names_by}
use Rattle.arrowflow_line.proofs.reading.parts_of.Goals as goal

-- the byte that separates names
abbrev is_comma : ℕ → Bool
is_comma b = b == 44

-- one more part is in the list
pub loop-part-preserved : goal.loop-part-preserved
loop-part-preserved c =
    let rest = c.loop-part.rest.now in
    let part = c.in-Some.part.now in
    let later = names_by c.in-Some.after.now in
    let old = c.loop-part.parts.items in
    let cut = c.in-Some.ensures.byte (omega arith) (λ w o f. f) in
    let first : names_by rest ≡ part ∷ later = slice_split_first is_comma rest 0 cut.2 ∙ ap₂ (λ x ys. x ∷ slice_split is_comma ys) (sym cut.0) (sym cut.1) in
    let now : map string_bytes c.push.new.self.items ≡ map string_bytes old ++ part ∷ [] =
    ap (map string_bytes) c.in_ok-push.ensures.items ∙ map-append string_bytes old (c.in_ok-from_str.field-0 ∷ []) ∙ ap (λ t. map string_bytes old ++ t ∷ []) c.in_ok-from_str.ensures.ok in
    (ap (λ ts. ts ++ later) now ∙ append_assoc (map string_bytes old) (part ∷ []) later ∙ ap (λ ts. map string_bytes old ++ ts) (sym first) ∙ c.loop-part.invariant.0, search rules)

-- the remaining text is the last part
pub returns : goal.returns
returns c =
    let rest = c.loop-part.rest.now in
    let old = c.loop-part.parts.items in
    let cut = c.in_default.ensures.byte (omega arith) (λ w o f. f) in
    let last : names_by rest ≡ rest ∷ [] = slice_split_none is_comma rest (All-from_get_or (λ x. is_comma x ≡ false) rest 0 (λ i less. fails_before_first is_comma rest i 0 (omega (arith, less, cut)))) in
    ap (map string_bytes) c.in_ok-push-2.ensures.items ∙ map-append string_bytes old (c.in_ok-from_str-2.field-0 ∷ []) ∙ ap (λ t. map string_bytes old ++ t ∷ []) c.in_ok-from_str-2.ensures.ok
    ∙ ap (λ ts. map string_bytes old ++ ts) (sym last) ∙ c.loop-part.invariant.0
