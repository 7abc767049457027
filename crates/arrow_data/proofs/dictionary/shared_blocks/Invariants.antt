use Rattle.std.proofs.Common.{◌≡◌, map, take}
use Rattle.std.specs.Rc.{rc_value}
use Rattle.arrow_data.proofs.dictionary.shared_blocks.Given as goal

-- the copies so far hold the blocks so far
abbrev pub invariant-loop-block : goal.invariant-loop-block
invariant-loop-block l = map rc_value l.copies.items ≡ map rc_value (take l.block-index l.blocks)
