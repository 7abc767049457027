-- What the values of a dictionary from an index on send, array by array.
use Rattle.std.proofs.Common.{◌≡◌, ◌≤◌, ℕ, zero, suc, ◌+◌, ◌-◌, List, [], ◌∷◌, ◌++◌, length, drop, sym, ap, ◌∙◌, subst, arith}
use Rattle.std.specs.List.{AllByRecursion}
use Rattle.std.proofs.lemmas.List.{ext_get_or, length-drop, take_all}
use Rattle.arrow_data.specs.Column.{Column, HasValue, ValueList, values_from}
use Rattle.arrow_layout.specs.PlainValue.{PlainValue, null_value}
use Rattle.arrow_data.proofs.Sameness.{at_values_from, length-values_from}
use Rattle.arrow_body_slots.proofs.Ranges.{all_first, all_last, rest_both}
use Rattle.arrow_body_writer.proofs.Sending.{along_more}
use Rattle.arrow_body_writer.specs.Sent.{sent_along}
use Rattle.arrow_body_writer.specs.declared.source.ColumnSource.{ColumnSource, Slots, Rest, Items', Field'}
use Rattle.arrow_body_writer.specs.declared.steps.ChildPath.{ChildPath}

-- a property of all values holds of those from an index on
pub all_from_one : (P : PlainValue → Type 0) (vs : List PlainValue) (n : ℕ) → AllByRecursion P vs → AllByRecursion P (drop n vs)
all_from_one P vs zero all = all
all_from_one P [] (suc n) all = tt
all_from_one P (v ∷ vs) (suc n) all = all_from_one P vs n all.1

-- how many values an array has from an index on, and where in the dictionary they end
pub run_inside : (d : ValueList) (i : ℕ) (a : Column) (place : ℕ) → HasValue d i a place → i + (length a.raw - place) ≤ length d.values
run_inside d i a place h =
    let last = h.follow (length a.raw - place - 1) (omega (arith, h.inside)) in
    omega (arith, h.inside, last.0)

-- they are the dictionary's values
pub run_is : (d : ValueList) (i : ℕ) (a : Column) (place : ℕ) → HasValue d i a place
    → values_from a.raw place (length a.raw) ≡ values_from d.values i (i + (length a.raw - place))
run_is d i a place h =
    let count = length a.raw - place in
    let inside = run_inside d i a place h in
    let long : length (values_from a.raw place (length a.raw)) ≡ count = length-values_from a.raw place (length a.raw) (omega arith) in
    let same : length (values_from d.values i (i + count)) ≡ count = omega (arith, length-values_from d.values i (i + count) inside) in
    ext_get_or null_value (values_from a.raw place (length a.raw)) (values_from d.values i (i + count)) (long ∙ sym same)
    (λ k l. at_values_from a.raw place (length a.raw) k (omega (arith, l, long)) ∙ sym (h.follow k (omega (arith, l, long, h.inside))).1 ∙ sym (at_values_from d.values i (i + count) k (omega (arith, l, long))))

-- a property of everything that the remaining values send holds of everything that a range of them sends
pub all_of_range : (P : PlainValue → Type 0) (steps : ChildPath) (vs : List PlainValue) (from start stop : ℕ) → from ≤ start → start ≤ stop
    → AllByRecursion P (sent_along steps (drop from vs)) → AllByRecursion P (sent_along steps (values_from vs start stop))
all_of_range P steps vs from start stop low high all =
    let before = values_from vs from start in
    let range = values_from vs start stop in
    let after = drop stop vs in
    let split : drop from vs ≡ before ++ (range ++ after) = rest_both vs from start low ∙ ap (λ others. before ++ others) (rest_both vs start stop high) in
    let parts = ap (sent_along steps) split ∙ along_more steps before (range ++ after) ∙ ap (λ others. sent_along steps before ++ others) (along_more steps range after) in
    all_first P (sent_along steps range) (sent_along steps after) (all_last P (sent_along steps before) (sent_along steps range ++ sent_along steps after) (subst (AllByRecursion P) parts all))

-- once all of them are taken
pub rest_all : (T : List PlainValue → Type 0) (steps : ChildPath) (vs : List PlainValue) (from i : ℕ) → length vs ≤ i → T (sent_along steps (values_from vs from i)) → T (sent_along steps (drop from vs))
rest_all T steps vs from i all taken = subst (λ ws. T (sent_along steps ws)) (take_all (i - from) (drop from vs) (omega (arith, all, length-drop from vs))) taken

-- and they send what the dictionary's values send
pub run_sent : (steps : ChildPath) (d : ValueList) (i : ℕ) (a : Column) (place end : ℕ) → HasValue d i a place → end ≡ length a.raw
    → sent_along steps (values_from a.raw place end) ≡ sent_along steps (values_from d.values i (i + (end - place)))
run_sent steps d i a place end h all =
    ap (λ k. sent_along steps (values_from a.raw place k)) all
    ∙ ap (sent_along steps) (run_is d i a place h)
    ∙ ap (λ k. sent_along steps (values_from d.values i (i + (k - place)))) (sym all)

-- the number of columns above
abbrev pub count_above : ColumnSource → ℕ
count_above (Slots array) = 0
count_above (Rest dictionary from) = 0
count_above (Items' n p lists) = suc (count_above lists)
count_above (Field' p structs k) = suc (count_above structs)
