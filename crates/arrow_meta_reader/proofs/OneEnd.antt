-- Reading that ends with a fault other than `Memory` ends at one point, so each of the counts has only one possible
-- value.
use Rattle.std.proofs.Common.{◌≡◌, ℕ, ◌+◌, ◌≤◌, Bool, false, true, inl, inr, List, Some, refl, sym, ap, subst, ◌∙◌, arith}
use Rattle.arrow_types.specs.Limits.{LimitNumbers}
use Rattle.arrow_meta_tree.specs.declared.fault.MetaFault.{MetaFault}
use Rattle.arrow_meta_tree.specs.declared.fault.MetaFault.TheVariants.{Memory}
use Rattle.arrow_meta_tree.specs.declared.kinds.TableKind.{TableKind}
use Rattle.arrow_meta_tree.specs.declared.kinds.FieldForm.TheVariants as forms
use Rattle.arrow_meta_tree.specs.declared.decode_cost.DecodeCost.{DecodeCost}
use Rattle.arrow_meta_tree.specs.Grows.{whole}
use Rattle.arrow_meta_reader.specs.Judges.{CountsFailed}
use Rattle.arrow_meta_tree.specs.Costs.{IsTreeOf, Counts, EndsAtRoot}
use Rattle.arrow_meta_tree.specs.Kinds.{Spot}
use Rattle.arrow_meta_tree.specs.Lies.{Layer, table_layer, tables_layer, layer}
use Rattle.arrow_meta_tree.specs.Reads.{NoneFits, NoRowFits, LacksRoom, Ends, RowEnds}
use Rattle.arrow_meta_tree.specs.Reads.{ends_unreadable, ends_unpaid, ends_paid, ends_long, ends_refused, ends_below, ends_inside, ends_first, ends_unkept, ends_later}
use Rattle.arrow_meta_tree.specs.Trees.{Tree, Trees, none, more}
use Rattle.arrow_meta_tree.specs.Within.{visit, entry, levels, levels_all, visits, visits_all, entries, entries_all, text_bytes, text_bytes_all, Room, Spends, Fits}
use Rattle.arrow_meta_tree.proofs.Layers.{none_fits, too_long, no_room_at, no_fields, no_elements}
use Rattle.arrow_meta_tree.proofs.OneTree.{one}
use Rattle.arrow_meta_reader.proofs.OneAnswer.{one_tree}
use Rattle.arrow_meta_tree.proofs.Roots.{root_placed, table_there}

-- spending the same leaves the same
left_same : (room a b : Room) (v n t : ℕ) → Spends room a v n t → Spends room b v n t → a ≡ b
left_same room a b v n t h k =
    let same_visits : a.visits ≡ b.visits = omega (arith, h.visits_paid, k.visits_paid) in
    let same_entries : a.entries ≡ b.entries = omega (arith, h.entries_paid, k.entries_paid) in
    let same_text : a.text ≡ b.text = omega (arith, h.text_paid, k.text_paid) in
    λ i. record { visits = same_visits i; entries = same_entries i; text = same_text i }

-- a tree that was paid for fits
paid_fits : (room new : Room) (most : ℕ) (x : Tree) → levels x ≤ most → Spends room new (visits x) (entries x) (text_bytes x) →
    Fits room most (levels x) (visits x) (entries x) (text_bytes x)
paid_fits room new most x deep paid = record {
  levels_fit = deep;
  visits_fit = omega (arith, paid.visits_paid);
  entries_fit = omega (arith, paid.entries_paid);
  text_fits = omega (arith, paid.text_paid);
}

-- if there is no room for a table, none is paid for
lacking : (room mid : Room) (kind : TableKind) (most : ℕ) → LacksRoom room kind most → visit kind ≤ most → Spends room mid (visit kind) (entry kind) 0 → ⊥
lacking room mid kind most (inl short) deep paid = omega (arith, short, deep)
lacking room mid kind most (inr (inl short)) deep paid = omega (arith, short, paid.visits_paid)
lacking room mid kind most (inr (inr short)) deep paid = omega (arith, short, paid.entries_paid)

-- the layer at an offset to a table is that of a table
only_table : (bytes : List ℕ) (s : Spot) (kind : TableKind) (p : ℕ) (l : Layer) → s ≡ record { form = forms.Table kind; place = Some p } → layer bytes s ≡ Some l →
    (ss : List Spot) × (table_layer kind ss ≡ l)
only_table bytes s kind p l at e =
    let here : layer bytes (record { form = forms.Table kind; place = Some p }) ≡ Some l = subst (λ t. layer bytes t ≡ Some l) at e in
    let there = table_there bytes kind p l here in
    (_, there.2)

-- the first tree of a row that fits
first_fits : (room : Room) (most : ℕ) (x : Tree) (xs : Trees) → Fits room most (levels_all (more x xs)) (visits_all (more x xs)) (entries_all (more x xs)) (text_bytes_all (more x xs)) →
    Fits room most (levels x) (visits x) (entries x) (text_bytes x)
first_fits room most x xs fits = record {
  levels_fit = omega (arith, fits.levels_fit);
  visits_fit = omega (arith, fits.visits_fit);
  entries_fit = omega (arith, fits.entries_fit);
  text_fits = omega (arith, fits.text_fits);
}

-- and its later ones, once the first is paid for
later_fits : (room mid : Room) (most : ℕ) (x y : Tree) (ys : Trees) → x ≡ y → Spends room mid (visits x) (entries x) (text_bytes x) →
    Fits room most (levels_all (more y ys)) (visits_all (more y ys)) (entries_all (more y ys)) (text_bytes_all (more y ys)) →
    Fits mid most (levels_all ys) (visits_all ys) (entries_all ys) (text_bytes_all ys)
later_fits room mid most x y ys same paid fits = record {
  levels_fit = omega (arith, fits.levels_fit);
  visits_fit = omega (arith, fits.visits_fit, paid.visits_paid, ap visits same);
  entries_fit = omega (arith, fits.entries_fit, paid.entries_paid, ap entries same);
  text_fits = omega (arith, fits.text_fits, paid.text_paid, ap text_bytes same);
}

-- a table that there is no room for is not paid for
never_paid : {s : Spot} {most : ℕ} {room new : Room} (kind : TableKind) (p : ℕ) (j : TableKind) → s ≡ record { form = forms.Table kind; place = Some p } → LacksRoom room kind most →
    s.form ≡ forms.Table j → visit j ≤ most → Spends room new (visit j) (entry j) 0 → ⊥
never_paid {most = most} {room = room} {new = new} kind p j at short form deep paid =
    let e : forms.Table j ≡ forms.Table kind = sym form ∙ ap (λ (t : Spot). t.form) at in
    let same : j ≡ kind = cc in
    lacking room new kind most short (subst (λ i. visit i ≤ most) same deep) (subst (λ i. Spends room new (visit i) (entry i) 0) same paid)

-- Paying twice for the table at one spot leaves the same room.
paid_twice : (s : Spot) (kind j : TableKind) (room a b : Room) → s.form ≡ forms.Table kind → s.form ≡ forms.Table j → Spends room a (visit kind) (entry kind) 0 → Spends room b (visit j) (entry j) 0 → a ≡ b
paid_twice s kind j room a b form is paid also =
    let e : forms.Table j ≡ forms.Table kind = sym is ∙ form in
    let same : j ≡ kind = cc in
    left_same room a b (visit kind) (entry kind) 0 paid (subst (λ i. Spends room b (visit i) (entry i) 0) same also)

-- Nothing is read below a table that there is no room for.
never_below : (bytes : List ℕ) {s : Spot} {most : ℕ} (below : ℕ) {room mid : Room} {j : TableKind} {ss : List Spot} (kind : TableKind) (p : ℕ) → s ≡ record { form = forms.Table kind; place = Some p } →
    LacksRoom room kind most → layer bytes s ≡ Some (table_layer j ss) → below + visit j ≡ most → Spends room mid (visit j) (entry j) 0 → ⊥
never_below bytes {s = s} {most = most} below {room = room} {mid = mid} {j = j} {ss = ss} kind p at short is deep paid =
    let there = only_table bytes s kind p (table_layer j ss) at is in
    let e = there.1 in
    let same : j ≡ kind = cc in
    let fits : visit j ≤ most = omega (arith, deep) in
    lacking room mid kind most short (subst (λ i. visit i ≤ most) same fits) (subst (λ i. Spends room mid (visit i) (entry i) 0) same paid)

-- There is no vector at an offset to a table.
never_inside : (bytes : List ℕ) {s : Spot} {ss : List Spot} (kind : TableKind) (p : ℕ) → s ≡ record { form = forms.Table kind; place = Some p } → layer bytes s ≡ Some (tables_layer ss) → ⊥
never_inside bytes {s = s} {ss = ss} kind p at is =
    let there = only_table bytes s kind p (tables_layer ss) at is in
    let e = there.1 in
    cc

-- Any fault other than `Memory`.
abbrev IsOther : MetaFault → Type 0
IsOther e = e ≡ Memory → ⊥

mutual
  -- If reading ends, no tree fits.
  ends_none : {bytes : List ℕ} {v : Bool} {e : MetaFault} {s : Spot} {most : ℕ} {room new : Room} → Ends bytes v e s most room new → IsOther e → NoneFits bytes s most room
  ends_none (ends_unreadable nothing) other = none_fits _ _ _ _ nothing
  ends_none {bytes = bytes} {most = most} {room = room} (ends_unpaid kind p at short) other =
      subst (λ t. NoneFits bytes t most room) (sym at) (no_room_at bytes kind p most room short)
  ends_none (ends_paid kind form nothing deep paid) other = none_fits _ _ _ _ nothing
  ends_none (ends_long x at short) other = too_long _ _ x _ _ at short
  ends_none (ends_refused x at takes paid) other = absurd (other refl)
  ends_none (ends_below at deep paid row) other = no_fields _ _ _ _ _ _ _ _ at deep paid (row_ends_none row other)
  ends_none (ends_inside at row) other = no_elements _ _ _ _ _ at (row_ends_none row other)

  -- If reading a row ends, no row fits.
  row_ends_none : {bytes : List ℕ} {v : Bool} {e : MetaFault} {ss : List Spot} {most : ℕ} {room new : Room} → RowEnds bytes v e ss most room new → IsOther e → NoRowFits bytes ss most room
  row_ends_none (ends_first first) other none there fits = absurd there
  row_ends_none (ends_first first) other (more y ys) there fits = ends_none first other y there.0 (first_fits _ _ y ys fits)
  row_ends_none (ends_unkept x placed deep paid) other ys there fits = absurd (other refl)
  row_ends_none (ends_later x placed deep paid row) other none there fits = absurd there
  row_ends_none {bytes = bytes} (ends_later x placed deep paid row) other (more y ys) there fits =
      row_ends_none row other ys there.1 (later_fits _ _ _ x y ys (one bytes _ x y placed there.0) paid fits)

-- The rows below one table are the same row.
same_row : (bytes : List ℕ) (e : MetaFault) (s : Spot) (most below far : ℕ) (room mid also b : Room) (kind j : TableKind) (ss rs : List Spot) →
    layer bytes s ≡ Some (table_layer kind ss) → below + visit kind ≡ most → Spends room mid (visit kind) (entry kind) 0 →
    layer bytes s ≡ Some (table_layer j rs) → far + visit j ≡ most → Spends room also (visit j) (entry j) 0 → RowEnds bytes false e rs far also b → RowEnds bytes false e ss below mid b
same_row bytes e s most below far room mid also b kind j ss rs at deep paid is deeper more_paid rest =
    let f = sym at ∙ is in
    let kinds : j ≡ kind = cc in
    let spots : rs ≡ ss = cc in
    let levels_same : far ≡ below = omega (arith, deep, deeper, ap visit kinds) in
    let paid_same : Spends room also (visit kind) (entry kind) 0 = subst (λ i. Spends room also (visit i) (entry i) 0) kinds more_paid in
    let rooms : also ≡ mid = left_same room also mid (visit kind) (entry kind) 0 paid_same paid in
    subst (λ r. RowEnds bytes false e ss below r b) rooms (subst (λ n. RowEnds bytes false e ss n also b) levels_same (subst (λ r. RowEnds bytes false e r far also b) spots rest))

mutual
  -- The room that is left where reading a spot ends is unique.
  one_left : {bytes : List ℕ} {v : Bool} {e : MetaFault} {s : Spot} {most : ℕ} {room a b : Room} → Ends bytes v e s most room a → Ends bytes v e s most room b → IsOther e → a ≡ b
  one_left (ends_refused x at takes paid) k other = absurd (other refl)
  one_left h (ends_refused x at takes paid) other = absurd (other refl)
  one_left (ends_unreadable nothing) (ends_unreadable bare) other = refl
  one_left (ends_unreadable nothing) (ends_unpaid kind p at short) other = refl
  one_left (ends_unreadable nothing) (ends_long x at short) other = refl
  one_left (ends_unreadable nothing) (ends_below at deep paid row) other = absurd (let e = sym nothing ∙ at in cc)
  one_left (ends_unreadable nothing) (ends_inside at row) other = absurd (let e = sym nothing ∙ at in cc)
  one_left (ends_unpaid kind p at short) (ends_unreadable bare) other = refl
  one_left (ends_unpaid kind p at short) (ends_unpaid j q is less) other = refl
  one_left (ends_unpaid kind p at short) (ends_paid j form bare deep paid) other = absurd (never_paid kind p j at short form deep paid)
  one_left (ends_unpaid kind p at short) (ends_long x is less) other = refl
  one_left (ends_unpaid kind p at short) (ends_below is deep paid row) other = absurd (never_below _ _ kind p at short is deep paid)
  one_left (ends_unpaid kind p at short) (ends_inside is row) other = absurd (never_inside _ kind p at is)
  one_left (ends_paid kind form nothing deep paid) (ends_unpaid j q at short) other = absurd (never_paid j q kind at short form deep paid)
  one_left {s = s} (ends_paid kind form nothing deep paid) (ends_paid j is bare far also) other = paid_twice s kind j _ _ _ form is paid also
  one_left (ends_paid kind form nothing deep paid) (ends_long x is less) other = absurd (let e = sym nothing ∙ is in cc)
  one_left (ends_paid kind form nothing deep paid) (ends_below is far also row) other = absurd (let e = sym nothing ∙ is in cc)
  one_left (ends_paid kind form nothing deep paid) (ends_inside is row) other = absurd (let e = sym nothing ∙ is in cc)
  one_left (ends_long x at short) (ends_unreadable bare) other = refl
  one_left (ends_long x at short) (ends_unpaid j q is less) other = refl
  one_left (ends_long x at short) (ends_paid j form bare deep paid) other = absurd (let e = sym bare ∙ at in cc)
  one_left (ends_long x at short) (ends_long y is less) other = refl
  one_left (ends_long x at short) (ends_below is deep paid row) other = absurd (let e = sym at ∙ is in cc)
  one_left (ends_long x at short) (ends_inside is row) other = absurd (let e = sym at ∙ is in cc)
  one_left (ends_below at deep paid row) (ends_unreadable bare) other = absurd (let e = sym bare ∙ at in cc)
  one_left (ends_below at deep paid row) (ends_unpaid j q is short) other = absurd (never_below _ _ j q is short at deep paid)
  one_left (ends_below at deep paid row) (ends_paid j form bare far also) other = absurd (let e = sym bare ∙ at in cc)
  one_left (ends_below at deep paid row) (ends_long x is short) other = absurd (let e = sym at ∙ is in cc)
  one_left (ends_below at deep paid row) (ends_below is far also rest) other = one_row_left row (same_row _ _ _ _ _ _ _ _ _ _ _ _ _ _ at deep paid is far also rest) other
  one_left (ends_below at deep paid row) (ends_inside is rest) other = absurd (let e = sym at ∙ is in cc)
  one_left (ends_inside at row) (ends_unreadable bare) other = absurd (let e = sym bare ∙ at in cc)
  one_left (ends_inside at row) (ends_unpaid j q is short) other = absurd (never_inside _ j q is at)
  one_left (ends_inside at row) (ends_paid j form bare far also) other = absurd (let e = sym bare ∙ at in cc)
  one_left (ends_inside at row) (ends_long x is short) other = absurd (let e = sym at ∙ is in cc)
  one_left (ends_inside at row) (ends_below is far also rest) other = absurd (let e = sym at ∙ is in cc)
  one_left {bytes = bytes} {e = e} {most = most} {room = room} {b = b} (ends_inside {ss = ss} at row) (ends_inside {ss = rs} is rest) other =
      let f = sym at ∙ is in
      let same : rs ≡ ss = cc in
      one_row_left row (subst (λ r. RowEnds bytes true e r most room b) same rest) other

  -- The room that is left where reading a row ends is unique.
  one_row_left : {bytes : List ℕ} {v : Bool} {e : MetaFault} {ss : List Spot} {most : ℕ} {room a b : Room} → RowEnds bytes v e ss most room a → RowEnds bytes v e ss most room b → IsOther e → a ≡ b
  one_row_left (ends_unkept x placed deep paid) k other = absurd (other refl)
  one_row_left h (ends_unkept x placed deep paid) other = absurd (other refl)
  one_row_left (ends_first first) (ends_first also) other = one_left first also other
  one_row_left (ends_first first) (ends_later x placed deep paid row) other = absurd (ends_none first other x placed (paid_fits _ _ _ x deep paid))
  one_row_left (ends_later x placed deep paid row) (ends_first first) other = absurd (ends_none first other x placed (paid_fits _ _ _ x deep paid))
  one_row_left {bytes = bytes} {v = v} {e = e} {most = most} {room = room} {b = b} (ends_later {s = s} {rest = rest} {mid = mid} x placed deep paid row) (ends_later {mid = also} y there far more_paid others) other =
      let same : y ≡ x = one bytes s y x there placed in
      let paid_same : Spends room also (visits x) (entries x) (text_bytes x) = subst (λ z. Spends room also (visits z) (entries z) (text_bytes z)) same more_paid in
      let rooms : also ≡ mid = left_same room also mid (visits x) (entries x) (text_bytes x) paid_same paid in
      one_row_left row (subst (λ r. RowEnds bytes v e rest most r b) rooms others) other

-- equal spending gives equal counts
one_count : (room left : Room) (v w : DecodeCost) → Spends room left v.fields v.pairs v.bytes → Spends room left w.fields w.pairs w.bytes → v ≡ w
one_count room left v w h k =
    let same_fields : v.fields ≡ w.fields = omega (arith, h.visits_paid, k.visits_paid) in
    let same_pairs : v.pairs ≡ w.pairs = omega (arith, h.entries_paid, k.entries_paid) in
    let same_bytes : v.bytes ≡ w.bytes = omega (arith, h.text_paid, k.text_paid) in
    λ i. record { fields = same_fields i; pairs = same_pairs i; bytes = same_bytes i }

-- reading metadata that have a tree does not end with a fault
never_ends : (limits : LimitNumbers) (bytes : List ℕ) (e : MetaFault) (x : Tree) (w : DecodeCost) → IsOther e → EndsAtRoot limits bytes e w → IsTreeOf bytes limits x → ⊥
never_ends limits bytes e x w other ends is =
    ends_none ends.1 other x (root_placed limits.types bytes x is.lies) (record {
      levels_fit = is.within.shallow.levels_within;
      visits_fit = is.within.shallow.visits_within;
      entries_fit = is.within.shallow.entries_within;
      text_fits = is.within.text_within;
    })

-- After a fault other than `Memory` the work is unique.
pub one_work : (limits : LimitNumbers) (bytes : List ℕ) (e : MetaFault) (v w : DecodeCost) → IsOther e → CountsFailed limits bytes e v → CountsFailed limits bytes e w → v ≡ w
one_work limits bytes e v w other (inl h) (inl k) =
    let rooms : k.0 ≡ h.0 = one_left k.1 h.1 other in
    one_count (whole limits.max_metadata) h.0 v w h.2 (subst (λ r. Spends (whole limits.max_metadata) r w.fields w.pairs w.bytes) rooms k.2)
one_work limits bytes e v w other (inl h) (inr k) = absurd (never_ends limits bytes e k.0 v other h k.1)
one_work limits bytes e v w other (inr h) (inl k) = absurd (never_ends limits bytes e h.0 w other k h.1)
one_work limits bytes e v w other (inr h) (inr k) =
    let same : k.0 ≡ h.0 = one_tree bytes limits k.0 h.0 k.1 h.1 in
    let also : Counts w h.0 = subst (Counts w) same k.2 in
    let same_fields : v.fields ≡ w.fields = h.2.fields ∙ sym also.fields in
    let same_pairs : v.pairs ≡ w.pairs = h.2.pairs ∙ sym also.pairs in
    let same_bytes : v.bytes ≡ w.bytes = h.2.bytes ∙ sym also.bytes in
    λ i. record { fields = same_fields i; pairs = same_pairs i; bytes = same_bytes i }
