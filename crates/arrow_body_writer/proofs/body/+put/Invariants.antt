use Rattle.std.proofs.Common.{◌<◌, drop}
use Rattle.std.specs.List.{AllByRecursion}
use Rattle.arrow_data.specs.Column.{Column}
use Rattle.arrow_data.specs.Same.{parts_measure, slot_measure}
use Rattle.arrow_body_laws.specs.Laws.{raws_of}
use Rattle.arrow_body_laws.specs.Raws.{AreRaws}
use Rattle.arrow_body_laws.specs.Stored.{fields_of_columns}
use Rattle.arrow_body_writer.proofs.Chunks.{StoresUpTo}
use Rattle.arrow_body_writer.proofs.Measures.{IsRepresentableUpTo}
use Rattle.arrow_body_writer.specs.Align.{alignment_of}
use Rattle.arrow_body_writer.specs.Sent.{nodes_of_column, visible_children}
use Rattle.arrow_body_writer.specs.Source.{column_in}
use Rattle.arrow_body_writer.proofs.body.+put.Given as goal

-- what is sent below a column is smaller than the column
abbrev pub decreases-put_column : goal.decreases-put_column
decreases-put_column l = slot_measure (column_in l.source.now)

abbrev pub decreases-put_columns : goal.decreases-put_columns
decreases-put_columns l = parts_measure l.arrays.now

abbrev pub decreases-put_below : goal.decreases-put_below
decreases-put_below l = parts_measure (visible_children (column_in l.source.now))

-- all columns are representable exactly if the remaining ones are, and once these are stored, all are
abbrev pub invariant-put_columns-loop-array : goal.invariant-put_columns-loop-array
invariant-put_columns-loop-array l =
    IsRepresentableUpTo l.arrays (drop l.array-index l.arrays)
    × AllByRecursion (λ (d : Column). nodes_of_column d < 18446744073709551615) (drop l.array-index l.arrays)
    × AreRaws (fields_of_columns (drop l.array-index l.arrays)) (raws_of (drop l.array-index l.arrays))
    × StoresUpTo (alignment_of l.align) l.arrays (drop l.array-index l.arrays) l.fn.body l.body

abbrev pub invariant-put_below-loop-k : goal.invariant-put_below-loop-k
invariant-put_below-loop-k l =
    IsRepresentableUpTo (visible_children (column_in l.source)) (drop l.k (visible_children (column_in l.source)))
    × AllByRecursion (λ (d : Column). nodes_of_column d < 18446744073709551615) (drop l.k (visible_children (column_in l.source)))
    × AreRaws (fields_of_columns (drop l.k (visible_children (column_in l.source)))) (raws_of (drop l.k (visible_children (column_in l.source))))
    × StoresUpTo (alignment_of l.align) (visible_children (column_in l.source)) (drop l.k (visible_children (column_in l.source))) l.fn.body l.body
