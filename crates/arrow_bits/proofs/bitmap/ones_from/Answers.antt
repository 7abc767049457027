use Rattle.std.proofs.Common.{◌<◌, ℕ, get_or, subst, sym, ◌∙◌, arith}
use Rattle.arrow_bits.proofs.Runs.{HasRun, run_in_word, run_in_byte}
use Rattle.arrow_bits.proofs.bitmap.ones_from.Goals as goal
use Rattle.arrow_bits.proofs.bitmap.ones_from.Goals.{then-bytes-byte-ge8, else-bytes-byte-ge8}

-- the ones were counted in eight bytes, or in one
run : (c : goal.After-row_known-1) → HasRun c.args.bytes.now c.args.j c.if-bytes-byte-ge8.ones
run c =
    let bytes = c.args.bytes.now in
    let j = c.args.j in
    let small : (k : ℕ) → get_or bytes k 0 < 256 = λ k. (c.type_inv.bytes k).fits in
    elim c.if-bytes-byte-ge8.branch [
      | then-bytes-byte-ge8 w ↦
          subst (HasRun bytes j) (sym (w.ones-is ∙ w.trailing_ones-ones.ensures)) (run_in_word bytes j w.u64_at.result small (omega (arith, w.if-bytes-byte-ge8.true)) w.u64_at.type_inv w.u64_at.ensures)
      | else-bytes-byte-ge8 w ↦ subst (HasRun bytes j) (sym (w.ones-is ∙ w.trailing_ones-ones-else-bytes-byte-ge8.ensures)) (run_in_byte bytes j small)
    ]

-- they are set
pub returns-clause-set : goal.returns-clause-set
returns-clause-set c = (run c).set

-- and if there is none, the first bit is not set
pub returns-clause-none : goal.returns-clause-none
returns-clause-none c = (run c).none
