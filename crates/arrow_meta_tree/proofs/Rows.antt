-- A row of trees that is read from left to right.
use Rattle.std.proofs.Common.{◌≡◌, ℕ, zero, suc, ◌+◌, ◌≤◌, max, List, [], ◌∷◌, ◌++◌, take, length, slice_get, Some, refl, sym, ap, subst, arith}
use Rattle.std.proofs.lemmas.List.{take_all}
use Rattle.arrow_meta_tree.specs.Kinds.{Spot}
use Rattle.arrow_meta_tree.specs.declared.message_tree.Tree.{Tree as Built}
use Rattle.arrow_meta_tree.specs.Lies.{Placed, AllPlaced}
use Rattle.arrow_meta_tree.specs.Trees.{Tree, Trees, none, more}
use Rattle.arrow_meta_tree.specs.Views.{plain, plain_all}
use Rattle.arrow_meta_tree.specs.Within.{levels, levels_all, visits, visits_all, entries, entries_all, text_bytes, text_bytes_all, Room, Spends}
use Rattle.arrow_meta_tree.specs.Grows.{Grows, RowGrows, first_grows, first_kept}
use Rattle.arrow_meta_tree.specs.Reads.{NoneFits, NoRowFits}
use Rattle.arrow_meta_tree.proofs.OneTree.{one}

-- a row with one more tree at its end
abbrev pub snoc : Trees → Tree → Trees
snoc none y = more y none
snoc (more x xs) y = more x (snoc xs y)

-- A tree that is pushed is at the end of the row.
pub plain_all-push : (ts : List Built) (t : Built) → plain_all (ts ++ t ∷ []) ≡ snoc (plain_all ts) (plain t)
plain_all-push [] t = refl
plain_all-push (u ∷ ts) t = ap (more (plain u)) (plain_all-push ts t)

-- the visits of a row with one more tree
pub visits-snoc : (xs : Trees) (x : Tree) → visits_all (snoc xs x) ≡ visits_all xs + visits x
visits-snoc none x = omega arith
visits-snoc (more y ys) x = omega (arith, visits-snoc ys x)

-- the entries of a row with one more tree
pub entries-snoc : (xs : Trees) (x : Tree) → entries_all (snoc xs x) ≡ entries_all xs + entries x
entries-snoc none x = omega arith
entries-snoc (more y ys) x = omega (arith, entries-snoc ys x)

-- the bytes of texts of a row with one more tree
pub text-snoc : (xs : Trees) (x : Tree) → text_bytes_all (snoc xs x) ≡ text_bytes_all xs + text_bytes x
text-snoc none x = omega arith
text-snoc (more y ys) x = omega (arith, text-snoc ys x)

-- the levels of a row with one more tree
pub levels-snoc : (xs : Trees) (x : Tree) → levels_all (snoc xs x) ≡ max (levels_all xs) (levels x)
levels-snoc none x = omega arith
levels-snoc (more y ys) x = omega (arith, levels-snoc ys x)

-- the part of a row that was read
pub record Done (bytes : List ℕ) (ss : List Spot) (most : ℕ) (old new : Room) (i : ℕ) (xs : Trees) : Type 0 where
  pub lie : AllPlaced bytes (take i ss) xs
  pub deep : levels_all xs ≤ most
  pub paid : Spends old new (visits_all xs) (entries_all xs) (text_bytes_all xs)

one_more : (bytes : List ℕ) (ss : List Spot) (i : ℕ) (s : Spot) (xs : Trees) (x : Tree) → slice_get ss i ≡ Some s → AllPlaced bytes (take i ss) xs → Placed bytes s x → AllPlaced bytes (take (suc i) ss) (snoc xs x)
one_more bytes [] i s xs x e h k = absurd (cc)
one_more bytes (r ∷ rs) zero s none x e h k = let f : r ≡ s = cc in let P : Spot → Type 0 = λ t. Placed bytes t x in (subst P (sym f) k, tt)
one_more bytes (r ∷ rs) zero s (more y ys) x e h k = absurd h
one_more bytes (r ∷ rs) (suc i) s none x e h k = absurd h
one_more bytes (r ∷ rs) (suc i) s (more y ys) x e h k = (h.0, one_more bytes rs i s ys x e h.1 k)

-- one more tree
pub further : (bytes : List ℕ) (ss : List Spot) (most : ℕ) (old mid new : Room) (i : ℕ) (s : Spot) (xs : Trees) (x : Tree) → Done bytes ss most old mid i xs → slice_get ss i ≡ Some s → Placed bytes s x × (levels x ≤ most) × Spends mid new (visits x) (entries x) (text_bytes x) → Done bytes ss most old new (suc i) (snoc xs x)
further bytes ss most old mid new i s xs x d e h =
    let paid_before = d.paid in
    let paid_now = h.2 in
    record {
      lie = one_more bytes ss i s xs x e d.lie h.0;
      deep = omega (arith, levels-snoc xs x, d.deep, h.1);
      paid = record {
        visits_paid = omega (arith, visits-snoc xs x, d.paid.visits_paid, h.2.visits_paid);
        entries_paid = omega (arith, entries-snoc xs x, d.paid.entries_paid, h.2.entries_paid);
        text_paid = omega (arith, text-snoc xs x, d.paid.text_paid, h.2.text_paid);
      };
    }

-- a row that lies at the spots continues after the trees read
reached : (bytes : List ℕ) (ss : List Spot) (i : ℕ) (s : Spot) (ys xs : Trees) → slice_get ss i ≡ Some s → AllPlaced bytes (take i ss) ys → AllPlaced bytes ss xs
    → (x : Tree) × Placed bytes s x × (levels x ≤ levels_all xs) × (visits_all ys + visits x ≤ visits_all xs) × (entries_all ys + entries x ≤ entries_all xs) × (text_bytes_all ys + text_bytes x ≤ text_bytes_all xs)
reached bytes [] i s ys xs e h k = absurd (cc)
reached bytes (r ∷ rs) i s ys none e h k = absurd k
reached bytes (r ∷ rs) zero s none (more x xs) e h k =
    let f : r ≡ s = cc in
    let P : Spot → Type 0 = λ t. Placed bytes t x in
    (x, subst P f k.0, omega arith, omega arith, omega arith, omega arith)
reached bytes (r ∷ rs) zero s (more y ys) (more x xs) e h k = absurd h
reached bytes (r ∷ rs) (suc i) s none (more x xs) e h k = absurd h
reached bytes (r ∷ rs) (suc i) s (more y ys) (more x xs) e h k =
    let rest = reached bytes rs i s ys xs e h.1 k.1 in
    let same : y ≡ x = one bytes r y x h.0 k.0 in
    (rest.0, rest.1, omega (arith, rest.2), omega (arith, rest.3, ap visits same), omega (arith, rest.4, ap entries same), omega (arith, rest.5, ap text_bytes same))

-- If no tree fits at the next spot, no row fits.
pub stuck : (bytes : List ℕ) (ss : List Spot) (most : ℕ) (old mid : Room) (i : ℕ) (s : Spot) (ys : Trees) → Done bytes ss most old mid i ys → slice_get ss i ≡ Some s → NoneFits bytes s most mid → NoRowFits bytes ss most old
stuck bytes ss most old mid i s ys d e never xs h fits =
    let next = reached bytes ss i s ys xs e d.lie h in
    never next.0 next.1 (record {
      levels_fit = omega (arith, next.2, fits.levels_fit);
      visits_fit = omega (arith, next.3, fits.visits_fit, d.paid.visits_paid);
      entries_fit = omega (arith, next.4, fits.entries_fit, d.paid.entries_paid);
      text_fits = omega (arith, next.5, fits.text_fits, d.paid.text_paid);
    })

-- the whole row
pub finished : (bytes : List ℕ) (ss : List Spot) (most : ℕ) (old new : Room) (i : ℕ) (xs : Trees) → Done bytes ss most old new i xs → length ss ≤ i → AllPlaced bytes ss xs × (levels_all xs ≤ most) × Spends old new (visits_all xs) (entries_all xs) (text_bytes_all xs)
finished bytes ss most old new i xs d h =
    let P : List Spot → Type 0 = λ part. AllPlaced bytes part xs in
    (subst P (take_all i ss h) d.lie, d.deep, d.paid)

-- Reading a row whose first tree was read requests memory, to keep that tree.
first_read : (bytes : List ℕ) (r : Spot) (rs : List Spot) (most : ℕ) (old new : Room) (i : ℕ) (xs : Trees) →
    Done bytes (r ∷ rs) most old new (suc i) xs → RowGrows bytes (r ∷ rs) most old
first_read bytes r rs most old new i none d = absurd d.lie
first_read bytes r rs most old new i (more y ys) d =
    first_kept y d.lie.0 (record {
      levels_fit = omega (arith, d.deep);
      visits_fit = omega (arith, d.paid.visits_paid);
      entries_fit = omega (arith, d.paid.entries_paid);
      text_fits = omega (arith, d.paid.text_paid);
    })

-- Reading a row of which some tree was read requests memory.
pub begun : (bytes : List ℕ) (ss : List Spot) (most : ℕ) (old new : Room) (i : ℕ) (s : Spot) (xs : Trees) →
    Done bytes ss most old new (suc i) xs → slice_get ss i ≡ Some s → RowGrows bytes ss most old
begun bytes [] most old new i s xs d e = absurd (cc)
begun bytes (r ∷ rs) most old new i s xs d e = first_read bytes r rs most old new i xs d

-- the room is unchanged if nothing was spent
pub unspent : (old new : Room) → Spends old new 0 0 0 → new ≡ old
unspent old new h =
    let same_visits : new.visits ≡ old.visits = omega (arith, h.visits_paid) in
    let same_entries : new.entries ≡ old.entries = omega (arith, h.entries_paid) in
    let same_text : new.text ≡ old.text = omega (arith, h.text_paid) in
    λ i. record { visits = same_visits i; entries = same_entries i; text = same_text i }

-- Reading a row requests memory if reading the tree at its next spot does.
pub grown : (bytes : List ℕ) (ss : List Spot) (most : ℕ) (old mid : Room) (i : ℕ) (s : Spot) (xs : Trees) →
    Done bytes ss most old mid i xs → slice_get ss i ≡ Some s → Grows bytes s most mid → RowGrows bytes ss most old
grown bytes [] most old mid i s xs d e g = absurd (cc)
grown bytes (r ∷ rs) most old mid zero s (more y ys) d e g = absurd d.lie
grown bytes (r ∷ rs) most old mid zero s none d e g =
    let same : s ≡ r = cc in
    let here : Grows bytes r most mid = subst (λ t. Grows bytes t most mid) same g in
    first_grows (subst (λ left. Grows bytes r most left) (unspent old mid d.paid) here)
grown bytes (r ∷ rs) most old mid (suc i) s xs d e g = first_read bytes r rs most old mid i xs d
