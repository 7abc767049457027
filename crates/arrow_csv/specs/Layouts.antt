-- How records are written. (This project's own.)
use Rattle.std.specs.Prelude.{ℕ, List, [], ◌∷◌, Bool, true, false, Option, None, Some, refl}
use Rattle.std.specs.Borrow.{Bor}
use Rattle.std.specs.Coded.{Coded, code_by, coded×, coded_ℕ, coded_bool, coded_list}
use Rattle.arrow_csv.specs.declared.layout.Layout.{Layout}

-- the text of a null that is a value of a row, and whether records begin with the number of their batch
pub record Form : Type 0 where
  pub null : List ℕ
  pub numbered : Bool

-- how the logic stores it
abbrev pub form_code : Coded Form
form_code = code_by (List ℕ × Bool) (coded× (coded_list coded_ℕ) coded_bool) (λ f. (f.null, f.numbered)) (λ p. record { null = p.0; numbered = p.1 }) (λ _. refl)

-- a null is the empty text if no other is given
abbrev pub null_by : Option (Bor (List ℕ)) → List ℕ
null_by None = []
null_by (Some text) = text.now

-- the form that a layout gives records
abbrev pub form_by : Layout → Form
form_by layout = record { null = null_by layout.null; numbered = layout.numbers }

-- the usual layout: all columns, empty nulls, and numbers
abbrev pub usual : Layout
usual = record { columns = None; null = None; numbers = true }

-- and the form of its records
abbrev pub usual_form : Form
usual_form = record { null = []; numbered = true }

-- the fields that come before those of the columns: this one, or none
abbrev pub first_field : Bool → List ℕ → List (List ℕ)
first_field true text = text ∷ []
first_field false text = []
