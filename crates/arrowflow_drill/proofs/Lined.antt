-- The lines of connections, with one more connection.
use Rattle.std.proofs.Common.{◌≡◌, ◌<◌, ℕ, ◌+◌, List, [], ◌∷◌, ◌++◌, length, take, get_or, Vec, OnOk, Result, refl, sym, ap, ◌∙◌, subst, arith, append_assoc, append-nil}
use Rattle.std.proofs.lemmas.List.{length-append, length-take-le, take_more}
use Rattle.std.proofs.lemmas.List.Sums.{sum_by-cons}
use Rattle.std.specs.declared.alloc.Global.{Global}
use Rattle.arrowflow_session.specs.declared.connection.Connection.{Connection}
use Rattle.arrowflow_session.specs.declared.session.Report.{Report}
use Rattle.arrow_stream_laws.specs.Text.{joined}
use Rattle.arrowflow_session.specs.Asked.{asked_of}
use Rattle.arrowflow_session.specs.Report.{items_of, reported_by}
use Rattle.arrowflow_drill.specs.Counts.{bytes_in}
use Rattle.arrowflow_drill.specs.Lines.{connection_lines, lines_from}

-- the total of the bytes of the parts is the sum over the parts
pub length-joined : (parts : List (Vec ℕ Global)) → length (joined (items_of parts)) ≡ bytes_in parts
length-joined [] = refl
length-joined (p ∷ ps) = length-append p.items (joined (items_of ps)) ∙ ap (λ n. length p.items + n) (length-joined ps) ∙ sym (sum_by-cons (λ (v : Vec ℕ Global). length v.items) p ps)

-- five consecutive texts, the last of which may not have been appended
pub five_after : {T E : Type 0} (r : Result T E) (start a b c d e : List ℕ) (to_a to_b to_c to_d to_e : List ℕ)
    → to_a ≡ start ++ a → to_b ≡ to_a ++ b → to_c ≡ to_b ++ c → to_d ≡ to_c ++ d → OnOk r (to_e ≡ to_d ++ e) → OnOk r (to_e ≡ start ++ (a ++ b ++ c ++ d ++ e))
five_after r start a b c d e to_a to_b to_c to_d to_e of_a of_b of_c of_d of_e =
    let before : to_d ≡ (((start ++ a) ++ b) ++ c) ++ d = of_d ∙ ap (λ t. t ++ d) (of_c ∙ ap (λ t. t ++ c) (of_b ∙ ap (λ t. t ++ b) of_a)) in
    let all : to_d ++ e ≡ start ++ (a ++ b ++ c ++ d ++ e) = ap (λ t. t ++ e) before ∙ simp append_assoc in
    subst (λ t. OnOk r (to_e ≡ t)) all of_e

-- the lines of one more connection
lines_more : (piece n : ℕ) (cs : List Connection) (rs : List Report) (c : Connection) (r : Report) → length rs ≡ length cs
    → lines_from piece n (cs ++ c ∷ []) (rs ++ r ∷ []) ≡ lines_from piece n cs rs ++ connection_lines piece (n + length cs) (asked_of c) (reported_by r)
lines_more piece n [] [] c r same =
    let at : n ≡ n + 0 = omega arith in
    append-nil (connection_lines piece n (asked_of c) (reported_by r)) ∙ ap (λ m. connection_lines piece m (asked_of c) (reported_by r)) at
lines_more piece n [] (y ∷ rs) c r same = absurd (omega (arith, same))
lines_more piece n (x ∷ cs) [] c r same = absurd (omega (arith, same))
lines_more piece n (x ∷ cs) (y ∷ rs) c r same =
    let at : (n + 1) + length cs ≡ n + length (x ∷ cs) = omega arith in
    let fewer : length rs ≡ length cs = omega (arith, same) in
    let first = connection_lines piece n (asked_of x) (reported_by y) in
    ap (λ t. first ++ t) (lines_more piece (n + 1) cs rs c r fewer)
    ∙ sym (append_assoc first (lines_from piece (n + 1) cs rs) (connection_lines piece ((n + 1) + length cs) (asked_of c) (reported_by r)))
    ∙ ap (λ m. (first ++ lines_from piece (n + 1) cs rs) ++ connection_lines piece m (asked_of c) (reported_by r)) at

-- the same for connections that are reported one after another
pub reported_more : (piece k : ℕ) (cs : List Connection) (rs : List Report) (c : Connection) (r : Report) (now new : List ℕ) → length rs ≡ length cs → k < length cs → c ≡ get_or cs k c → r ≡ get_or rs k r
    → now ≡ lines_from piece 0 (take k cs) (take k rs) → new ≡ now ++ connection_lines piece k (asked_of c) (reported_by r)
    → new ≡ lines_from piece 0 (take (k + 1) cs) (take (k + 1) rs)
reported_more piece k cs rs c r now new same low of_c of_r so_far more =
    let long : length (take k cs) ≡ k = length-take-le k cs (omega arith) in
    let as_long : length (take k rs) ≡ length (take k cs) = length-take-le k rs (omega arith) ∙ sym long in
    let at : 0 + length (take k cs) ≡ k = omega (arith, long) in
    let first : take (k + 1) cs ≡ take k cs ++ c ∷ [] = take_more cs k c low ∙ ap (λ x. take k cs ++ x ∷ []) (sym of_c) in
    let second : take (k + 1) rs ≡ take k rs ++ r ∷ [] = take_more rs k r (omega arith) ∙ ap (λ x. take k rs ++ x ∷ []) (sym of_r) in
    more
    ∙ ap (λ t. t ++ connection_lines piece k (asked_of c) (reported_by r)) so_far
    ∙ ap (λ m. lines_from piece 0 (take k cs) (take k rs) ++ connection_lines piece m (asked_of c) (reported_by r)) (sym at)
    ∙ sym (lines_more piece 0 (take k cs) (take k rs) c r as_long)
    ∙ ap (λ ys. lines_from piece 0 (take k cs ++ c ∷ []) ys) (sym second)
    ∙ ap (λ xs. lines_from piece 0 xs (take (k + 1) rs)) (sym first)
