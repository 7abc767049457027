-- Pairs of metadata, appended one by one, after the offsets to them.
use Rattle.std.proofs.Common.{◌≡◌, ◌+◌, ◌≤◌, ◌<◌, ℕ, zero, suc, List, [], ◌∷◌, ◌++◌, length, drop, take}
use Rattle.std.proofs.Common.{get_or, refl, sym, ap, subst, ◌∙◌, arith}
use Rattle.std.proofs.lemmas.List.{append-nil, drop_all}
use Rattle.std.specs.declared.alloc.Global.{Global}
use Rattle.std.specs.Prelude.{Vec}
use Rattle.arrow_flatbuf.specs.declared.layout.FieldValue.TheVariants.{Target}
use Rattle.arrow_flatbuf.specs.Layout.{up}
use Rattle.arrow_flatbuf.specs.Nodes.{Node, Nodes, none, more, after, laid, tables, table, count, slots}
use Rattle.arrow_flatbuf.specs.Nodes.{after_cells, count_nodes, OwnFit}
use Rattle.arrow_flatbuf.proofs.Laid.{ahead_all, ahead_cells}
use Rattle.arrow_flatbuf.proofs.Rows.{TablesLeft, tables_end, table_step}
use Rattle.arrow_types.specs.Notes.{KeyValue, pair_view, pairs_view}
use Rattle.arrow_meta_writer.specs.Layouts.{pair_cells, pair_nodes, metadata_cells}

-- a pair of the program
abbrev pub Held : Type 0
Held = Vec ℕ Global × Vec ℕ Global

-- the tables of some pairs
abbrev pub pair_nodes_of : List Held → Nodes
pair_nodes_of ps = pair_nodes (pairs_view ps)

-- the tables of the pairs from an index on
abbrev pub pairs_left : List Held → ℕ → Nodes
pairs_left ps i = pair_nodes_of (drop i ps)

-- the table of a pair
abbrev pub pair_node : Held → Node
pair_node p = table (pair_cells (pair_view p))

pub pairs_more : (ps : List Held) (i : ℕ) (p : Held) → i < length ps → p ≡ get_or ps i p → pairs_left ps i ≡ more (pair_node p) (pairs_left ps (i + 1))
pairs_more [] i p h is = absurd (omega arith)
pairs_more (x ∷ ps) zero p h is = ap (λ (y : Held). more (pair_node y) (pair_nodes_of ps)) (sym is)
pairs_more (x ∷ ps) (suc i) p h is =
    let next : suc (i + 1) ≡ suc i + 1 = omega arith in
    pairs_more ps i p (omega arith) is ∙ ap (λ n. more (pair_node p) (pair_nodes_of (drop n (x ∷ ps)))) next

pub pairs_none : (ps : List Held) (i : ℕ) → length ps ≤ i → pairs_left ps i ≡ none
pairs_none ps i h = ap pair_nodes_of (drop_all i ps h)

-- there are as many tables as pairs
pub count_pairs : (ps : List Held) → count_nodes (pair_nodes_of ps) ≡ length ps
count_pairs [] = refl
count_pairs (p ∷ ps) = omega (arith, count_pairs ps)

-- there is room for one
pub pair_room : (old now : List ℕ) (ps : List Held) (i : ℕ) (p : Held) (whole : Nodes) → TablesLeft old now (pairs_left ps i) whole → i < length ps → p ≡ get_or ps i p → after (length old) (tables whole) ≤ 1073741824
    → after (length now) (pair_node p) ≤ 1073741824
pair_room old now ps i p whole left h is room =
    let more_left = subst (λ ns. TablesLeft old now ns whole) (pairs_more ps i p h is) left in
    omega (arith, tables_end old now (more (pair_node p) (pairs_left ps (i + 1))) whole more_left, ahead_all (after (length now) (pair_node p)) (pairs_left ps (i + 1)), room)

pub pairs_step : (old now next : List ℕ) (ps : List Held) (i : ℕ) (p : Held) (whole : Nodes) → TablesLeft old now (pairs_left ps i) whole → i < length ps → p ≡ get_or ps i p → next ≡ now ++ laid (length now) (pair_node p)
    → TablesLeft old next (pairs_left ps (i + 1)) whole
pairs_step old now next ps i p whole left h is e =
    table_step old now next (pair_node p) (pairs_left ps (i + 1)) whole (subst (λ ns. TablesLeft old now ns whole) (pairs_more ps i p h is) left) e

pub pairs_last : (old now : List ℕ) (ps : List Held) (i : ℕ) (whole : Nodes) → TablesLeft old now (pairs_left ps i) whole → length ps ≤ i → now ≡ old ++ laid (length old) (tables whole)
pairs_last old now ps i whole left h = sym (append-nil now) ∙ subst (λ ns. TablesLeft old now ns whole) (pairs_none ps i h) left

-- metadata hold no numbers
pub metadata_fit : (ps : List KeyValue) → OwnFit (metadata_cells ps)
metadata_fit [] = tt
metadata_fit (p ∷ ps) = tt

-- the field of a table that names metadata laid out from q on, if there are any
pub metadata_slots : (q : ℕ) (ps : List KeyValue) → take (count (metadata_cells ps)) (Target (up 4 q) ∷ []) ≡ slots q (metadata_cells ps)
metadata_slots q [] = refl
metadata_slots q (p ∷ ps) = refl

-- metadata that are laid out from a position end there or after it
pub metadata_grows : (q : ℕ) (ps : List KeyValue) → q ≤ after_cells q (metadata_cells ps)
metadata_grows q ps = ahead_cells q (metadata_cells ps)
