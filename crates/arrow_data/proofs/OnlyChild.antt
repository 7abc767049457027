-- A column determines its child: the clauses on a child of a column hold of only one child.
use Rattle.std.proofs.Common.{◌≡◌, ℕ, [], ◌∷◌, get_or, Option, None, Some, sym, ap, ◌∙◌}
use Rattle.arrow_types.specs.Field.{FieldTree, none, more}
use Rattle.arrow_data.specs.Column.{AreOf, Column, HasChild, HasField}
use Rattle.arrow_data.specs.Laws.{AreOneColumn}

-- the content of an option, or else the other value
abbrev there_or : {A : Type 0} → A → Option A → A
there_or other None = other
there_or other (Some x) = x

-- equal options have equal contents
pub some_same : {A : Type 0} (x y : A) → (Some x ≡ Some y) → x ≡ y
some_same x y same = ap (there_or x) same

-- equal pairs have equal parts
pub pair_same : {A B : Type 0} (x y : A × B) → x ≡ y → (x.0 ≡ y.0) × (x.1 ≡ y.1)
pair_same x y same = (ap (λ p. p.0) same, ap (λ p. p.1) same)

pub one_field_of : (c : Column) (k : ℕ) (a b : Column) → HasField c k a → HasField c k b → AreOneColumn a b
one_field_of c k a b one other = record {
  typed = pair_same (a.data_type, a.encoding) (b.data_type, b.encoding) (some_same (a.data_type, a.encoding) (b.data_type, b.encoding) (sym one.typed ∙ other.typed));
  whole = some_same (a.raw, a.resolved) (b.raw, b.resolved) (sym one.whole ∙ other.whole);
  listed = one.listed ∙ sym other.listed;
}

typed_as_one : (fields : FieldTree) (a b : Column) → AreOf fields (a ∷ []) → AreOf fields (b ∷ []) → (a.data_type ≡ b.data_type) × (a.encoding ≡ b.encoding)
typed_as_one none a b one other = absurd one
typed_as_one (more head children none) a b one other = (one.0 ∙ sym other.0, one.1 ∙ sym other.1)
typed_as_one (more head children (more head' children' rest)) a b one other = absurd one.2

pub one_child_of : (c a b : Column) → HasChild c a → HasChild c b → AreOneColumn a b
one_child_of c a b one other = record {
  typed = typed_as_one c.data_type.children a b one.typed other.typed;
  whole = ap (λ cs. get_or cs 0 (a.raw, a.resolved)) (sym one.whole ∙ other.whole);
  listed = one.listed ∙ sym other.listed;
}
