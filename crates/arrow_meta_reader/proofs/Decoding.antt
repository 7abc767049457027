-- The result for the tree at the root of some bytes is the result for the bytes.
use Rattle.std.proofs.Common.{ℕ, List, Result, Ok, Err, inr, refl, arith}
use Rattle.arrow_types.specs.Limits.{LimitNumbers}
use Rattle.arrow_meta_tree.specs.declared.fault.MetaFault.{MetaFault}
use Rattle.arrow_meta_tree.specs.declared.fault.MetaFault.TheVariants.{Memory}
use Rattle.arrow_meta_tree.specs.declared.kinds.TableKind.TheVariants as kinds
use Rattle.arrow_meta_reader.specs.declared.message.Message.{Message}
use Rattle.arrow_meta_tree.specs.Grows.{GrowsAtRoot, RowGrows, table_grows, first_kept, whole}
use Rattle.arrow_meta_reader.specs.Judges.{Judges, Decodes}
use Rattle.arrow_meta_tree.specs.Costs.{IsTreeOf}
use Rattle.arrow_meta_tree.specs.Kinds.{spots_of}
use Rattle.arrow_meta_tree.specs.Trees.{Tree, leaf, table, tables, none, more}
use Rattle.arrow_meta_tree.proofs.Layers.{element_layer}
use Rattle.arrow_meta_tree.proofs.Roots.{leads}

-- Reading the bytes of a message requests memory: its version is kept.
tree_grows : (limits : LimitNumbers) (bytes : List ℕ) (x : Tree) → IsTreeOf bytes limits x →
    GrowsAtRoot limits bytes
tree_grows limits bytes (leaf a) h = absurd h.lies.2
tree_grows limits bytes (tables xs) h = absurd h.lies.2
tree_grows limits bytes (table kind none) h = absurd h.lies.2.3
tree_grows limits bytes (table kind (more y ys)) h =
    let there = h.lies.2 in
    let at = element_layer bytes (kinds.Message limits.types) 0 there.1 (leads bytes 0 h.lies.0 there.1 h.lies.1 there.2) in
    let kept : RowGrows bytes (spots_of (kinds.Message limits.types) there.1) 32 (whole limits.max_metadata) = first_kept y there.3.0 (record {
      levels_fit = omega (arith, h.within.shallow.levels_within);
      visits_fit = omega (arith, h.within.shallow.visits_within);
      entries_fit = omega (arith, h.within.shallow.entries_within);
      text_fits = omega (arith, h.within.text_within);
    }) in
    table_grows at refl (record { visits_paid = refl; entries_paid = refl; text_paid = omega arith }) kept

-- a result for the tree is one for the bytes
pub decoded : (r : Result Message MetaFault) (limits : LimitNumbers) (bytes : List ℕ) (x : Tree) →
    IsTreeOf bytes limits x → Judges r limits.max_body x → Decodes r limits bytes
decoded (Ok m) limits bytes x h judged = (x, h, judged)
decoded (Err Memory) limits bytes x h judged = tree_grows limits bytes x h
decoded (Err fault) limits bytes x h judged = inr (x, h, judged)
