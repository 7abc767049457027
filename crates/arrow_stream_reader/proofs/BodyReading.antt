-- Bytes that were read into the memory after those held.
use Rattle.std.proofs.Common.{◌≡◌, ℕ, ◌+◌, ◌≤◌, List, ◌++◌, length, take, ap, ◌∙◌, take-take, Option, Some, None, Result, Ok, Err}
use Rattle.std.specs.Prelude.{IfOk, IfSome}
use Rattle.std.proofs.Math.Seq.{take-append-add}
use Rattle.std.proofs.lemmas.List.{append_assoc, take-append-le}

-- they follow the bytes held, and what follows them is cut off
pub read_added : (old memory room past after : List ℕ) (start n all : ℕ) → start ≡ length old → take start memory ≡ old → n ≤ length room → start + n ≤ all
    → take (start + n) (take all ((take start memory ++ (room ++ past)) ++ after)) ≡ old ++ take n room
read_added old memory room past after start n all begins front within fits =
    take-take (start + n) all ((take start memory ++ (room ++ past)) ++ after) fits
    ∙ ap (λ xs. take (start + n) ((xs ++ (room ++ past)) ++ after)) front
    ∙ ap (take (start + n)) (append_assoc old (room ++ past) after)
    ∙ ap (λ k. take (k + n) (old ++ ((room ++ past) ++ after))) begins
    ∙ take-append-add old ((room ++ past) ++ after) n
    ∙ ap (λ xs. old ++ take n xs) (append_assoc room past after)
    ∙ ap (λ xs. old ++ xs) (take-append-le n room (past ++ after) within)

-- what follows from the bytes that a read gave, if it gave some
pub of_read : {E : Type 0} {P Q : ℕ → Type 0} (read : Result (Option ℕ) E) → ((n : ℕ) → P n → Q n) → IfOk read (λ taken. IfSome taken P) → IfOk read (λ taken. IfSome taken Q)
of_read (Ok None) f x = x
of_read (Ok (Some n)) f x = f n x
of_read (Err e) f x = x
