-- What is chosen, depending on the lengths of the lists and on whether one is a prefix of the other.
use Rattle.std.proofs.Common.{◌≡◌, ◌<◌, ◌≤◌, Bool, true, false, List, length, take, Some, cond, refl, sym, ap, ◌∙◌, subst, arith}
use Rattle.std.specs.Coded.{coded_list}
use Rattle.std.proofs.lemmas.List.{length-take}
use Rattle.std.proofs.Math.Seq.{take-length}
use Rattle.std.specs.Prelude.{min}
use Rattle.arrow_types.specs.Equality.{is_equal_decides}
use Rattle.arrow_layout.specs.PlainValue.{PlainValue}
use Rattle.arrow_layout.specs.Stored.{value_code}
use Rattle.arrow_dict.specs.declared.update.Update.TheVariants as updates
use Rattle.arrow_dict.specs.declared.update.Updates.{Updates}
use Rattle.arrow_dict.specs.declared.update.Updates.TheVariants as modes
use Rattle.arrow_dict.specs.Choice.{same_list}
use Rattle.arrow_dict.specs.Choice.{choice, growth}
use Rattle.arrow_data.specs.Same.{Begins}

untrue : (t : Bool) → (t ≡ true → ⊥) → t ≡ false
untrue true n = absurd (n refl)
untrue false n = refl

yes : (xs ys : List PlainValue) → xs ≡ ys → same_list xs ys ≡ true
yes xs ys h = (is_equal_decides (coded_list value_code) xs ys).1 h

no : (xs ys : List PlainValue) → (xs ≡ ys → ⊥) → same_list xs ys ≡ false
no xs ys n = untrue (same_list xs ys) (λ h. n ((is_equal_decides (coded_list value_code) xs ys).0 h))

itself : (old new : List PlainValue) → old ≡ new → Begins old new
itself old new e = subst (λ xs. Begins old xs) e (take-length old)

-- a list of which the old one is no prefix is sent completely
pub whole_chosen : (mode : Updates) (old new : List PlainValue) → (Begins old new → ⊥) → choice mode (Some old) new ≡ updates.Replace
whole_chosen mode old new n = ap (λ t. cond t updates.None (growth mode old new)) (no old new (λ e. n (itself old new e))) ∙ grown mode where
  grown : (m : Updates) → growth m old new ≡ updates.Replace
  grown modes.Delta = ap (λ t. cond t (updates.Delta (length old)) updates.Replace) (no (take (length old) new) old n)
  grown modes.Resend = refl

-- a longer list is no prefix
pub too_long : (old new : List PlainValue) → length new < length old → Begins old new → ⊥
too_long old new less b =
    let l = ap length b in
    let m : length (take (length old) new) ≡ min (length old) (length new) = length-take (length old) new in
    omega (arith, l, m)

-- a prefix of a list is no longer than the list
pub no_longer : (old new : List PlainValue) → Begins old new → length old ≤ length new
no_longer old new b =
    let l = ap length b in
    let m : length (take (length old) new) ≡ min (length old) (length new) = length-take (length old) new in
    omega (arith, l, m)

-- an extended list, if such lists are sent completely
pub resent_chosen : (old new : List PlainValue) → length old < length new → choice modes.Resend (Some old) new ≡ updates.Replace
resent_chosen old new more = ap (λ t. cond t updates.None updates.Replace) (no old new (λ e. let l = ap length e in omega (arith, l)))

-- the values after the old list
pub rest_chosen : (old new : List PlainValue) → length old < length new → Begins old new → choice modes.Delta (Some old) new ≡ updates.Delta (length old)
rest_chosen old new more b =
    ap (λ t. cond t updates.None (growth modes.Delta old new)) (no old new (λ e. let l = ap length e in omega (arith, l)))
    ∙ ap (λ t. cond t (updates.Delta (length old)) updates.Replace) (yes (take (length old) new) old b)

-- nothing, for an equal list
pub none_chosen : (mode : Updates) (old new : List PlainValue) → length old ≡ length new → Begins old new → choice mode (Some old) new ≡ updates.None
none_chosen mode old new same b =
    let all : take (length old) new ≡ new = ap (λ n. take n new) same ∙ take-length new in
    ap (λ t. cond t updates.None (growth mode old new)) (yes old new (sym b ∙ all))
