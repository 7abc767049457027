-- Inputs that are read one after another, and the requests for their connections.
use Rattle.std.proofs.Common.{◌≡◌, ◌<◌, ℕ, zero, suc, ◌+◌, List, [], ◌∷◌, ◌++◌, length, take, drop, get_or, set, map, Option, Ok, Err, inl, inr, refl, sym, ap, ◌∙◌, subst, arith, take-append-drop}
use Rattle.std.proofs.lemmas.List.{drop-set, drop-set-lt, drop_more, length-take-le, map-append, take-set, take_more, take_more_set}
use Rattle.std.proofs.lemmas.Grind.{drop_more_same}
use Rattle.arrow_types.specs.Limits.{LimitNumbers}
use Rattle.arrowflow_session.specs.Asked.{Asked, asked_of}
use Rattle.arrowflow_session.specs.Report.{Reports}
use Rattle.arrowflow_session.specs.declared.connection.Connection.{Connection}
use Rattle.arrowflow_session.specs.declared.session.Report.{Report}
use Rattle.arrowflow_input.specs.declared.tool_fault.ToolFault.{ToolFault}
use Rattle.arrowflow_input.specs.declared.tool_fault.ToolFault.TheVariants.{Input, Output, Stream, Refused, Memory}
use Rattle.arrowflow_drill.specs.Reading.{AreRead, Asks, EndsReading, IsRead, ReadsAll}

-- there is a report for each connection
pub reports_length : (limits : LimitNumbers) (cs : List Connection) (rs : List Report) → Reports limits cs rs → length rs ≡ length cs
reports_length limits [] [] x = refl
reports_length limits [] (r ∷ rs) x = absurd x
reports_length limits (c ∷ cs) [] x = absurd x
reports_length limits (c ∷ cs) (r ∷ rs) x = ap suc (reports_length limits cs rs x.1)

module _ {R : Type 0} (remaining : R → Option (List ℕ)) (has_failed : R → Type 0) (asks : Asks) where
  -- one more input was read
  read_more : (n : ℕ) (hads lefts : List R) (cs : List Asked) (had left : R) (c : Asked) → AreRead remaining has_failed asks n hads lefts cs → IsRead asks (n + length hads) (remaining had) (remaining left) (has_failed left) (Ok c)
      → AreRead remaining has_failed asks n (hads ++ had ∷ []) (lefts ++ left ∷ []) (cs ++ c ∷ [])
  read_more n [] [] [] had left c a x =
      let at : n + 0 ≡ n = omega arith in
      (subst (λ m. IsRead asks m (remaining had) (remaining left) (has_failed left) (Ok c)) at x, tt)
  read_more n [] [] (d ∷ ds) had left c a x = absurd a
  read_more n [] (l ∷ ls) cs had left c a x = absurd a
  read_more n (h ∷ hs) [] cs had left c a x = absurd a
  read_more n (h ∷ hs) (l ∷ ls) [] had left c a x = absurd a
  read_more n (h ∷ hs) (l ∷ ls) (d ∷ ds) had left c a x =
      let at : n + length (h ∷ hs) ≡ (n + 1) + length hs = omega arith in
      (a.0, read_more (n + 1) hs ls ds had left c a.1 (subst (λ m. IsRead asks m (remaining had) (remaining left) (has_failed left) (Ok c)) at x))

  -- one more input ended the reading
  ended_at : (n : ℕ) (hads lefts : List R) (cs : List Asked) (had left : R) (rest : List R) (fault : ToolFault) → AreRead remaining has_failed asks n hads lefts cs → IsRead asks (n + length hads) (remaining had) (remaining left) (has_failed left) (Err fault)
      → EndsReading remaining has_failed asks n (hads ++ had ∷ rest) (lefts ++ left ∷ rest) fault
  ended_at n [] [] [] had left rest fault a x =
      let at : n + 0 ≡ n = omega arith in
      inl (subst (λ m. IsRead asks m (remaining had) (remaining left) (has_failed left) (Err fault)) at x, refl)
  ended_at n [] [] (d ∷ ds) had left rest fault a x = absurd a
  ended_at n [] (l ∷ ls) cs had left rest fault a x = absurd a
  ended_at n (h ∷ hs) [] cs had left rest fault a x = absurd a
  ended_at n (h ∷ hs) (l ∷ ls) [] had left rest fault a x = absurd a
  ended_at n (h ∷ hs) (l ∷ ls) (d ∷ ds) had left rest fault a x =
      let at : n + length (h ∷ hs) ≡ (n + 1) + length hs = omega arith in
      inr ((d, a.0), ended_at (n + 1) hs ls ds had left rest fault a.1 (subst (λ m. IsRead asks m (remaining had) (remaining left) (has_failed left) (Err fault)) at x))

  module _ (k : ℕ) (hads now : List R) (d left : R) (low : k < length now) (same_length : length now ≡ length hads) (same : drop k now ≡ drop k hads) where
    abbrev had : R
    had = get_or now k d

    after_now : drop k now ≡ had ∷ drop (k + 1) now
    after_now = drop_more now k d low

    after_hads : drop k hads ≡ had ∷ drop (k + 1) now
    after_hads = sym same ∙ after_now

    at_k : get_or hads k had ≡ had
    at_k = let q : get_or hads k had ∷ drop (k + 1) hads ≡ had ∷ drop (k + 1) now = sym (drop_more hads k had (omega arith)) ∙ after_hads in cc

    numbered : 0 + length (take k hads) ≡ k
    numbered = let of : length (take k hads) ≡ k = length-take-le k hads (omega arith) in omega (arith, of)

    -- an input was read, and its connection was appended to the others
    pub read_next : (cs cs' : List Connection) (c : Connection) → cs' ≡ cs ++ c ∷ [] → AreRead remaining has_failed asks 0 (take k hads) (take k now) (map asked_of cs) → IsRead asks k (remaining had) (remaining left) (has_failed left) (Ok (asked_of c))
        → AreRead remaining has_failed asks 0 (take (k + 1) hads) (take (k + 1) (set now k left)) (map asked_of cs')
    read_next cs cs' c more a x =
        let here : take (k + 1) hads ≡ take k hads ++ had ∷ [] = take_more hads k had (omega arith) ∙ ap (λ y. take k hads ++ y ∷ []) at_k in
        let there : take (k + 1) (set now k left) ≡ take k now ++ left ∷ [] = take_more_set now k left low in
        let all : map asked_of cs' ≡ map asked_of cs ++ asked_of c ∷ [] = ap (λ y. map asked_of y) more ∙ map-append asked_of cs (c ∷ []) in
        subst (λ y. AreRead remaining has_failed asks 0 (take (k + 1) hads) (take (k + 1) (set now k left)) y) (sym all)
        (subst (λ hs. AreRead remaining has_failed asks 0 hs (take (k + 1) (set now k left)) (map asked_of cs ++ asked_of c ∷ [])) (sym here)
        (subst (λ ls. AreRead remaining has_failed asks 0 (take k hads ++ had ∷ []) ls (map asked_of cs ++ asked_of c ∷ [])) (sym there)
        (read_more 0 (take k hads) (take k now) (map asked_of cs) had left (asked_of c) a (subst (λ m. IsRead asks m (remaining had) (remaining left) (has_failed left) (Ok (asked_of c))) (sym numbered) x))))

    -- the inputs after it are unchanged
    pub rest_same : drop (k + 1) (set now k left) ≡ drop (k + 1) hads
    rest_same = drop-set-lt (k + 1) now k left (omega arith) ∙ drop_more_same now hads k same

    -- an input ended the reading
    ends_here : (cs : List Asked) (fault : ToolFault) → AreRead remaining has_failed asks 0 (take k hads) (take k now) cs → IsRead asks k (remaining had) (remaining left) (has_failed left) (Err fault) → EndsReading remaining has_failed asks 0 hads (set now k left) fault
    ends_here cs fault a x =
        let here : take k hads ++ had ∷ drop (k + 1) now ≡ hads = ap (λ y. take k hads ++ y) (sym after_hads) ∙ take-append-drop k hads in
        let there : take k now ++ left ∷ drop (k + 1) now ≡ set now k left =
        sym (ap (λ y. y ++ (left ∷ drop (k + 1) now)) (take-set now k left)) ∙ sym (ap (λ y. take k (set now k left) ++ y) (drop-set now k left low)) ∙ take-append-drop k (set now k left) in
        subst (λ hs. EndsReading remaining has_failed asks 0 hs (set now k left) fault) here
        (subst (λ ls. EndsReading remaining has_failed asks 0 (take k hads ++ had ∷ drop (k + 1) now) ls fault) there
        (ended_at 0 (take k hads) (take k now) cs had left (drop (k + 1) now) fault a (subst (λ m. IsRead asks m (remaining had) (remaining left) (has_failed left) (Err fault)) (sym numbered) x)))

    pub stopped_here : (cs : List Asked) (fault : ToolFault) → AreRead remaining has_failed asks 0 (take k hads) (take k now) cs → IsRead asks k (remaining had) (remaining left) (has_failed left) (Err fault) → ReadsAll remaining has_failed asks hads (set now k left) (Err fault)
    stopped_here cs (Stream f) a x = ends_here cs (Stream f) a x
    stopped_here cs (Input n) a x = ends_here cs (Input n) a x
    stopped_here cs Memory a x = tt
    stopped_here cs Output a x = absurd x.3
    stopped_here cs (Refused what kind) a x = absurd x.3

-- the requests for connections, one of which has changed in nothing that is requested
pub asked_same : (cs : List Connection) (k : ℕ) (c d : Connection) → asked_of c ≡ asked_of (get_or cs k d) → map asked_of (set cs k c) ≡ map asked_of cs
asked_same [] k c d e = refl
asked_same (x ∷ xs) zero c d e = ap (λ a. a ∷ map asked_of xs) e
asked_same (x ∷ xs) (suc k) c d e = ap (λ l. asked_of x ∷ l) (asked_same xs k c d e)
