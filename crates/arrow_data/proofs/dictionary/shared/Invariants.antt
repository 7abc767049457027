use Rattle.std.proofs.Common.{◌≡◌, take}
use Rattle.arrow_data.specs.Segments.{columns_of, starts_of}
use Rattle.arrow_data.proofs.dictionary.shared.Given as goal

-- the copies so far have the arrays and the starts of the segments so far
abbrev pub invariant-loop-segment : goal.invariant-loop-segment
invariant-loop-segment l = record {
  arrays : columns_of l.copies.items ≡ columns_of (take l.segment-index l.segments);
  starts : starts_of l.copies.items ≡ starts_of (take l.segment-index l.segments);
}
