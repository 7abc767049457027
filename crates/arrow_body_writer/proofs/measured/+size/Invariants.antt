use Rattle.std.proofs.Common.{◌<◌, drop}
use Rattle.std.specs.List.{AllByRecursion}
use Rattle.arrow_data.specs.Column.{Column}
use Rattle.arrow_data.specs.Same.{parts_measure, slot_measure}
use Rattle.arrow_body_laws.specs.Laws.{raws_of}
use Rattle.arrow_body_laws.specs.Raws.{AreRaws}
use Rattle.arrow_body_laws.specs.Stored.{fields_of_columns}
use Rattle.arrow_body_writer.proofs.Measures.{IsMeasured}
use Rattle.arrow_body_writer.specs.Align.{alignment_of}
use Rattle.arrow_body_writer.specs.Sent.{nodes_of_column, visible_children}
use Rattle.arrow_body_writer.specs.Source.{column_in}
use Rattle.arrow_body_writer.proofs.measured.+size.Given as goal

-- what is sent below a column is smaller than the column
abbrev pub decreases-column_size : goal.decreases-column_size
decreases-column_size l = slot_measure (column_in l.source.now)

abbrev pub decreases-whole_size : goal.decreases-whole_size
decreases-whole_size l = parts_measure l.arrays.now

abbrev pub decreases-size_below : goal.decreases-size_below
decreases-size_below l = parts_measure (visible_children (column_in l.source.now))

-- the size so far and the size of the remaining columns add up to the size of all columns; all columns are
-- representable exactly if the remaining ones are
abbrev pub invariant-whole_size-loop-array : goal.invariant-whole_size-loop-array
invariant-whole_size-loop-array l =
    IsMeasured (alignment_of l.align) l.arrays (drop l.array-index l.arrays) l.size
    × AllByRecursion (λ (d : Column). nodes_of_column d < 18446744073709551615) (drop l.array-index l.arrays)
    × AreRaws (fields_of_columns (drop l.array-index l.arrays)) (raws_of (drop l.array-index l.arrays))

abbrev pub invariant-size_below-loop-k : goal.invariant-size_below-loop-k
invariant-size_below-loop-k l =
    IsMeasured (alignment_of l.align) (visible_children (column_in l.source)) (drop l.k (visible_children (column_in l.source))) l.size
    × AllByRecursion (λ (d : Column). nodes_of_column d < 18446744073709551615) (drop l.k (visible_children (column_in l.source)))
    × AreRaws (fields_of_columns (drop l.k (visible_children (column_in l.source)))) (raws_of (drop l.k (visible_children (column_in l.source))))
