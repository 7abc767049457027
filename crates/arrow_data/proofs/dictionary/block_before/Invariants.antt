use Rattle.std.proofs.Common.{◌-◌, map}
use Rattle.std.specs.Rc.{rc_value}
use Rattle.arrow_data.specs.Segments.{Between, block_starts}
use Rattle.arrow_data.proofs.dictionary.block_before.Given as goal

abbrev pub invariant-loop-low : goal.invariant-loop-low
invariant-loop-low l = Between (block_starts (map rc_value l.blocks)) l.low l.high l.i

abbrev pub decreases-loop-low : goal.decreases-loop-low
decreases-loop-low l = l.high - l.low
