-- All messages at the start of bytes (`Front`): they are determined, and more bytes continue them.
use Rattle.std.proofs.Common.{◌≡◌, ℕ, ◌+◌, List, [], ◌∷◌, ◌++◌, length, drop, refl, sym, ap, ◌∙◌, subst, arith, length-drop}
use Rattle.std.proofs.lemmas.List.{drop-append-le}
use Rattle.arrow_types.specs.Limits.{LimitNumbers}
use Rattle.arrow_stream_reader.specs.declared.reader.Verdict.TheVariants.{Open, Done, Bad}
use Rattle.arrow_stream_reader.specs.State.{StreamState, ended}
use Rattle.arrow_stream_reader.specs.Frame.{Outcome, whole, marker, refused, waits, First}
use Rattle.arrow_stream_reader.specs.Front.{Entry, Snapshot, Front, rests, fails, closes, goes_on}
use Rattle.arrow_stream_reader.proofs.Firsts.{First-append, one_first, First-within, marker-within}

-- what the first outcome determines about the `Front`
abbrev pub Follows : LimitNumbers → StreamState → ℕ → List ℕ → Outcome → List Entry → Snapshot → Type 0
Follows l s p b waits es e = (es ≡ []) × (e ≡ record { state = s; place = p; rest = b; verdict = Open })
Follows l s p b (refused k) es e = (es ≡ []) × (e ≡ record { state = s; place = p; rest = b; verdict = Bad k })
Follows l s p b marker es e = (es ≡ record { given = ended; end = p + 8 } ∷ []) × (e ≡ record { state = s; place = p + 8; rest = drop 8 b; verdict = Done })
Follows l s p b (whole n s' g) es e = (fs : List Entry) × (es ≡ record { given = g; end = p + n } ∷ fs) × Front l s' (p + n) (drop n b) fs e

-- a `Front` begins with the first outcome of its bytes
pub front_follows : {l : LimitNumbers} {s : StreamState} {p : ℕ} {b : List ℕ} {o : Outcome} {es : List Entry} {e : Snapshot} → First l s p b o → Front l s p b es e → Follows l s p b o es e
front_follows {l} {s} {p} {b} x (rests y) = subst (λ o. Follows l s p b o [] (record { state = s; place = p; rest = b; verdict = Open })) (one_first y x) (refl, refl)
front_follows {l} {s} {p} {b} x (fails {k = k} y) = subst (λ o. Follows l s p b o [] (record { state = s; place = p; rest = b; verdict = Bad k })) (one_first y x) (refl, refl)
front_follows {l} {s} {p} {b} x (closes y) = subst (λ o. Follows l s p b o (record { given = ended; end = p + 8 } ∷ []) (record { state = s; place = p + 8; rest = drop 8 b; verdict = Done })) (one_first y x) (refl, refl)
front_follows {l} {s} {p} {b} x (goes_on {n = n} {g = g} {es = fs} {e = e} y ys) = subst (λ o. Follows l s p b o (record { given = g; end = p + n } ∷ fs) e) (one_first y x) (fs, refl, ys)

-- bytes have at most one `Front`
pub one_front : {l : LimitNumbers} {s : StreamState} {p : ℕ} {b : List ℕ} {es fs : List Entry} {e f : Snapshot} →
    Front l s p b es e → Front l s p b fs f → (es ≡ fs) × (e ≡ f)
one_front (rests x) y = let w = front_follows x y in (sym w.0, sym w.1)
one_front (fails x) y = let w = front_follows x y in (sym w.0, sym w.1)
one_front (closes x) y = let w = front_follows x y in (sym w.0, sym w.1)
one_front {p = p} (goes_on {n = n} {g = g} x xs) y =
    let w = front_follows x y in
    let i = one_front xs w.2 in
    (ap (λ r. record { given = g; end = p + n } ∷ r) i.0 ∙ sym w.1, i.1)

-- equal bytes have the same `Front`
pub at_bytes : {l : LimitNumbers} {s : StreamState} {p : ℕ} {b c : List ℕ} {es : List Entry} {e : Snapshot} → b ≡ c →
    Front l s p b es e → Front l s p c es e
at_bytes {l} {s} {p} {es = es} {e = e} q x = subst (λ r. Front l s p r es e) q x

-- bytes after an open `Front` continue from its state
pub front_then : {l : LimitNumbers} {s : StreamState} {p : ℕ} {b : List ℕ} {es fs : List Entry} {e f : Snapshot} (c : List ℕ) → Front l s p b es e → e.verdict ≡ Open → Front l e.state e.place (e.rest ++ c) fs f → Front l s p (b ++ c) (es ++ fs) f
front_then c (rests x) o y = y
front_then c (fails x) o y = absurd (cc)
front_then c (closes x) o y = absurd (cc)
front_then {l} {s} {p} {b} c (goes_on {n = n} {s' = s'} x xs) o y =
    goes_on (First-append c (λ q. cc) x) (at_bytes (sym (drop-append-le n b c (First-within x))) (front_then c xs o y))

-- more bytes keep the entries; once the stream has ended, they are only added to its remaining bytes
pub more_bytes : {l : LimitNumbers} {s : StreamState} {p : ℕ} {b : List ℕ} {es fs : List Entry} {e f : Snapshot} (c : List ℕ) → Front l s p b es e → Front l s p (b ++ c) fs f →
    ((more : List Entry) × (fs ≡ es ++ more)) × ((e.verdict ≡ Open → ⊥) → (fs ≡ es) × (f ≡ record e { rest = e.rest ++ c }))
more_bytes {fs = fs} c (rests x) y = ((fs, refl), λ n. absurd (n refl))
more_bytes {fs = fs} c (fails x) y = let w = front_follows (First-append c (λ q. cc) x) y in ((fs, refl), λ n. (w.0, w.1))
more_bytes {s = s} {p = p} {b = b} c (closes x) y =
    let w = front_follows (First-append c (λ q. cc) x) y in
    (([], w.0), λ n. (w.0, w.1 ∙ ap (λ r. record { state = s; place = p + 8; rest = r; verdict = Done }) (drop-append-le 8 b c (marker-within x))))
more_bytes {l} {s} {p} {b} c (goes_on {n = n} {g = g} x xs) y =
    let w = front_follows (First-append c (λ q. cc) x) y in
    let i = more_bytes c xs (at_bytes (drop-append-le n b c (First-within x)) w.2) in
    ((i.0.0, w.1 ∙ ap (λ r. record { given = g; end = p + n } ∷ r) i.0.1), λ o. (w.1 ∙ ap (λ r. record { given = g; end = p + n } ∷ r) (i.1 o).0, (i.1 o).1))

-- a `Front` that has ended keeps its entries and its end when bytes follow
pub front_ended : {l : LimitNumbers} {s : StreamState} {p : ℕ} {b : List ℕ} {es : List Entry} {e : Snapshot} (c : List ℕ) → (e.verdict ≡ Open → ⊥) → Front l s p b es e → Front l s p (b ++ c) es (record { state = e.state; place = e.place; rest = e.rest ++ c; verdict = e.verdict })
front_ended c n (rests x) = absurd (n refl)
front_ended c n (fails x) = fails (First-append c (λ q. cc) x)
front_ended {l} {s} {p} {b} c n (closes x) =
    subst (λ r. Front l s p (b ++ c) (record { given = ended; end = p + 8 } ∷ []) (record { state = s; place = p + 8; rest = r; verdict = Done })) (drop-append-le 8 b c (marker-within x)) (closes (First-append c (λ q. cc) x))
front_ended {l} {s} {p} {b} c n (goes_on {n = m} x xs) =
    goes_on (First-append c (λ q. cc) x) (at_bytes (sym (drop-append-le m b c (First-within x))) (front_ended c n xs))

-- the remaining bytes begin at the start offset plus the length of the bytes before them
pub front_place : {l : LimitNumbers} {s : StreamState} {p : ℕ} {b : List ℕ} {es : List Entry} {e : Snapshot} →
    Front l s p b es e → e.place + length e.rest ≡ p + length b
front_place (rests x) = refl
front_place (fails x) = refl
front_place {b = b} (closes x) = simp length-drop (omega (arith, marker-within x))
front_place {p = p} {b = b} (goes_on {n = n} x xs) =
    let i = front_place xs in
    let len : length (drop n b) + n ≡ length b = simp length-drop (omega (arith, First-within x)) in
    i ∙ omega arith
