-- Which dictionary is listed for an id.
use Rattle.std.proofs.Common.{◌≡◌, ◌≢◌, ◌<◌, ℕ, zero, suc, ℤ, false, List, [], ◌∷◌, length, get_or, Some, None, ⊎_elim, refl, ◌∙◌, arith}
use Rattle.std.specs.Ordering.{int_eq}
use Rattle.std.proofs.lemmas.Bool.{cases_Bool, cond-true, cond-false}
use Rattle.std.proofs.lemmas.Bool.Decides.{Decides-int_eq}
use Rattle.arrow_data.specs.Column.{ValueList}
use Rattle.arrow_data.specs.Listed.{listed}

-- two different ids compare as different
apart : (x y : ℤ) → x ≢ y → int_eq x y ≡ false
apart x y other = ⊎_elim (λ same. absurd (other ((Decides-int_eq x y).0 same))) (λ differs. differs) (cases_Bool (int_eq x y))

-- if the first entry has the id, it is the one that is listed
pub listed_first : (e : ℤ × ValueList) (ds : List (ℤ × ValueList)) (id : ℤ) → e.0 ≡ id → listed (e ∷ ds) id ≡ Some e.1
listed_first e ds id same = cond-true (int_eq e.0 id) (Some e.1) (listed ds id) ((Decides-int_eq e.0 id).1 same)

-- a first entry with another id is passed over
pub listed_next : (e : ℤ × ValueList) (ds : List (ℤ × ValueList)) (id : ℤ) → e.0 ≢ id → listed (e ∷ ds) id ≡ listed ds id
listed_next e ds id other = cond-false (int_eq e.0 id) (Some e.1) (listed ds id) (apart e.0 id other)

-- the entry of the id that no other entry of it precedes is the one that is listed
pub listed_at : (ds : List (ℤ × ValueList)) (id : ℤ) (i : ℕ) (e : ℤ × ValueList) → ((k : ℕ) → k < i → (get_or ds k e).0 ≢ id) → i < length ds → (get_or ds i e).0 ≡ id
    → listed ds id ≡ Some (get_or ds i e).1
listed_at [] id i e before h same = absurd (omega arith)
listed_at (d ∷ ds) id zero e before h same = listed_first d ds id same
listed_at (d ∷ ds) id (suc i) e before h same =
    listed_next d ds id (before 0 (omega arith)) ∙ listed_at ds id i e (λ k l. before (suc k) (omega arith)) (omega arith) same

-- nothing is listed for an id that no entry has
pub listed_absent : (ds : List (ℤ × ValueList)) (id : ℤ) → ((k : ℕ) (e : ℤ × ValueList) → k < length ds → (get_or ds k e).0 ≢ id) → listed ds id ≡ None
listed_absent [] id absent = refl
listed_absent (d ∷ ds) id absent =
    listed_next d ds id (absent 0 d (omega arith)) ∙ listed_absent ds id (λ k e h. absent (suc k) e (omega arith))
