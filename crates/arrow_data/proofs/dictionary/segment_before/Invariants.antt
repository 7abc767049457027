use Rattle.std.proofs.Common.{◌-◌}
use Rattle.arrow_data.specs.Segments.{Between, starts_of}
use Rattle.arrow_data.proofs.dictionary.segment_before.Given as goal

abbrev pub invariant-loop-low : goal.invariant-loop-low
invariant-loop-low l = Between (starts_of l.segments) l.low l.high l.i

abbrev pub decreases-loop-low : goal.decreases-loop-low
decreases-loop-low l = l.high - l.low
