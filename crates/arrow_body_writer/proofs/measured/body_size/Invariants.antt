use Rattle.std.proofs.Common.{drop}
use Rattle.arrow_body_laws.specs.Laws.{raws_of}
use Rattle.arrow_body_laws.specs.Raws.{AreRaws}
use Rattle.arrow_body_laws.specs.Stored.{fields_of_columns}
use Rattle.arrow_body_writer.proofs.Measures.{IsMeasured}
use Rattle.arrow_body_writer.specs.Align.{alignment_of}
use Rattle.arrow_body_writer.proofs.measured.body_size.Given as goal

-- the size so far and the size of the remaining columns add up to the size of all columns; all raw values can be
-- stored if those of the remaining columns can
abbrev pub invariant-loop-array : goal.invariant-loop-array
invariant-loop-array l =
    IsMeasured (alignment_of l.align) l.arrays (drop l.array-index l.arrays) l.size
    × (AreRaws (fields_of_columns (drop l.array-index l.arrays)) (raws_of (drop l.array-index l.arrays)) → AreRaws (fields_of_columns l.arrays) (raws_of l.arrays))
