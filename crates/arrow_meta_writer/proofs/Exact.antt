-- Positions for which there is room are not capped, and the fields of a table fit there.
use Rattle.std.proofs.Common.{◌≡◌, ℕ, ◌≤◌, List, arith, ap, ◌∙◌}
use Rattle.arrow_flatbuf.specs.declared.layout.FieldValue.{FieldValue}
use Rattle.arrow_flatbuf.specs.Layout.{table_end}
use Rattle.arrow_flatbuf.specs.Nodes.{Node, TableFields, table, after, after_cells, cells_place, slots}
use Rattle.arrow_flatbuf.specs.Nodes.{OwnFit}
use Rattle.arrow_flatbuf.specs.Placed.{SlotsFit}
use Rattle.arrow_flatbuf.proofs.Laid.{own_slots_fit, ahead_cells}
use Rattle.arrow_meta_writer.specs.Capped.{capped}
use Rattle.arrow_meta_writer.proofs.Capping.{uncapped}

pub exact : (r n : ℕ) → r ≡ capped n → n ≤ 1073741824 → r ≡ n
exact r n e h = e ∙ uncapped n (omega (arith, h))

-- the end of a table, without what belongs to it
pub exact_table : (r p n : ℕ) (cs : TableFields) → r ≡ capped (cells_place p cs) → p ≡ n → after n (table cs) ≤ 1073741824 → r ≡ cells_place n cs
exact_table r p n cs e f h =
    exact r (cells_place n cs) (e ∙ ap (λ (q : ℕ). capped (cells_place q cs)) f) (omega (arith, ahead_cells (cells_place n cs) cs, h))

-- the end of an object that is laid out from an exact position, with more after it
pub exact_after : (r s q : ℕ) (x : Node) (rest : TableFields) → s ≡ capped (after r x) → r ≡ q → after_cells (after q x) rest ≤ 1073741824 → s ≡ after q x
exact_after r s q x rest e f h =
    exact s (after q x) (e ∙ ap (λ (n : ℕ). capped (after n x)) f) (omega (arith, ahead_cells (after q x) rest, h))

pub table_fits : (p : ℕ) (ss : List FieldValue) (cs : TableFields) → ss ≡ slots (cells_place p cs) cs → OwnFit cs → after p (table cs) ≤ 1073741824 → SlotsFit (table_end p ss) ss
table_fits p ss cs e fits h = own_slots_fit p ss cs e fits (omega (arith, h))

-- the fields of a table, if its position is known by another name
pub slots_there : (n p : ℕ) (ss : List FieldValue) (cs : TableFields) → n ≡ p → ss ≡ slots (cells_place n cs) cs → ss ≡ slots (cells_place p cs) cs
slots_there n p ss cs same h = h ∙ ap (λ (m : ℕ). slots (cells_place m cs) cs) same
