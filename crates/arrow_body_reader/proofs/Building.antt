-- The columns that a builder has made, field by field. A builder is identified by its body and its arrays.
use Rattle.std.proofs.Common.{◌≡◌, ◌++◌, ℕ, List, [], ◌∷◌, Option, Some, None, sym, ap, ◌∙◌, append_assoc, append-nil, IfSome, MatchOption}
use Rattle.std.specs.Prelude.{⊤}
use Rattle.arrow_data.specs.Column.{Column}

-- a new builder for an equal body
pub start_building : {B : Type 0} (at : B → List ℕ) (made : B → List Column) (body body' : List ℕ) (o : Option B) (Typed Fit : Type 0) → body ≡ body' → Typed → Fit
    → IfSome o (λ b. (at b ≡ body) × (made b ≡ [])) → IfSome o (λ b. (at b ≡ body') × (made b ≡ []) × Typed × Fit)
start_building at made body body' None Typed Fit same typed fit new = tt
start_building at made body body' (Some b) Typed Fit same typed fit new = (new.0 ∙ same, new.1, typed, fit)

-- before the first field all columns are still to be made
pub first_building : {B : Type 0} (at : B → List ℕ) (made : B → List Column) (body : List ℕ) (o : Option B) (all : List Column) (Typed Fit : Type 0)
    → IfSome o (λ b. (at b ≡ body) × (made b ≡ []) × Typed × Fit) → IfSome o (λ b. (at b ≡ body) × (made b ++ all ≡ all) × Typed × Fit)
first_building at made body None all Typed Fit new = tt
first_building at made body (Some b) all Typed Fit new = (new.0, ap (λ xs. xs ++ all) new.1, new.2, new.3)

-- a builder for the fields below a field
pub inner_building : {B : Type 0} (at : B → List ℕ) (made : B → List Column) (Made : B → Type 0) (body : List ℕ) (o inner : Option B) (Typed Fit Typed' Fit' : Type 0)
    → IfSome o (λ b. (at b ≡ body) × Made b × Typed × Fit) → (Typed → Typed') → (Fit → Fit') → MatchOption inner ⊤ (λ i. MatchOption o ⊥ (λ b. (at i ≡ at b) × (made i ≡ [])))
    → IfSome inner (λ i. (at i ≡ body) × (made i ≡ []) × Typed' × Fit')
inner_building at made Made body o None Typed Fit Typed' Fit' so_far typed fit new = tt
inner_building at made Made body None (Some i) Typed Fit Typed' Fit' so_far typed fit new = absurd new
inner_building at made Made body (Some b) (Some i) Typed Fit Typed' Fit' so_far typed fit new = (new.0 ∙ so_far.0, new.1, typed so_far.2, fit so_far.3)

-- what is known of the first field
pub node_building : {B : Type 0} (at : B → List ℕ) (Made : B → Type 0) (body : List ℕ) (o : Option B) (Typed Fit Typed' Fit' : Type 0)
    → IfSome o (λ b. (at b ≡ body) × Made b × Typed × Fit) → (Typed → Typed') → (Fit → Fit') → IfSome o (λ b. (at b ≡ body) × Typed' × Fit')
node_building at Made body None Typed Fit Typed' Fit' so_far typed fit = tt
node_building at Made body (Some b) Typed Fit Typed' Fit' so_far typed fit = (so_far.0, typed so_far.2, fit so_far.3)

-- the fact about the arrays, without that about the body
pub made_alone : {B : Type 0} (at : B → List ℕ) (made : B → List Column) (body : List ℕ) (o : Option B) (columns : List Column)
    → IfSome o (λ b. (at b ≡ body) × (made b ≡ columns)) → IfSome o (λ b. made b ≡ columns)
made_alone at made body None columns so_far = tt
made_alone at made body (Some b) columns so_far = so_far.1

-- after the array of the first field, those of the other fields are still to be made
pub next_building : {B : Type 0} (at : B → List ℕ) (made : B → List Column) (body : List ℕ) (o new : Option B) (column : Column) (here others all : List Column) (Typed Fit Typed' Fit' : Type 0)
    → here ≡ column ∷ others → IfSome o (λ b. (at b ≡ body) × (made b ++ here ≡ all) × Typed × Fit) → (Typed → Typed') → (Fit → Fit')
    → MatchOption new ⊤ (λ n. MatchOption o ⊥ (λ b. (at n ≡ at b) × (made n ≡ made b ++ column ∷ [])))
    → IfSome new (λ n. (at n ≡ body) × (made n ++ others ≡ all) × Typed' × Fit')
next_building at made body o None column here others all Typed Fit Typed' Fit' step so_far typed fit next = tt
next_building at made body None (Some n) column here others all Typed Fit Typed' Fit' step so_far typed fit next = absurd next
next_building at made body (Some b) (Some n) column here others all Typed Fit Typed' Fit' step so_far typed fit next = (
  next.0 ∙ so_far.0,
  ap (λ xs. xs ++ others) next.1 ∙ append_assoc (made b) (column ∷ []) others ∙ ap (λ xs. made b ++ xs) (sym step) ∙ so_far.1,
  typed so_far.2,
  fit so_far.3,
)

-- after the last field no columns are left to be made
pub last_building : {B : Type 0} (at : B → List ℕ) (made : B → List Column) (body : List ℕ) (o : Option B) (none all : List Column) (Typed Fit : Type 0)
    → none ≡ [] → IfSome o (λ b. (at b ≡ body) × (made b ++ none ≡ all) × Typed × Fit) → IfSome o (λ b. (at b ≡ body) × (made b ≡ all))
last_building at made body None none all Typed Fit end so_far = tt
last_building at made body (Some b) none all Typed Fit end so_far = (so_far.0, sym (append-nil (made b)) ∙ ap (λ xs. made b ++ xs) (sym end) ∙ so_far.1)
