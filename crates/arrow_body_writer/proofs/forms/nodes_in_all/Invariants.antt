use Rattle.std.proofs.Common.{◌≡◌, ◌≤◌, ◌+◌, drop}
use Rattle.arrow_body_reader.specs.Taken.{taken_nodes}
use Rattle.arrow_body_laws.specs.Laws.{raws_of}
use Rattle.arrow_body_laws.specs.Raws.{AreRaws}
use Rattle.arrow_body_laws.specs.Stored.{fields_of_columns}
use Rattle.arrow_body_slots.specs.Tally.{capped}
use Rattle.arrow_body_writer.proofs.forms.nodes_in_all.Given as goal

-- the nodes so far and those of the remaining columns are all nodes; all raw values can be stored if those of the
-- remaining columns can
abbrev pub invariant-loop-array : goal.invariant-loop-array
invariant-loop-array l =
    (capped (l.count + taken_nodes (fields_of_columns (drop l.array-index l.arrays))) ≡ capped (taken_nodes (fields_of_columns l.arrays)))
    × (l.count ≤ 18446744073709551615)
    × (AreRaws (fields_of_columns (drop l.array-index l.arrays)) (raws_of (drop l.array-index l.arrays)) → AreRaws (fields_of_columns l.arrays) (raws_of l.arrays))
