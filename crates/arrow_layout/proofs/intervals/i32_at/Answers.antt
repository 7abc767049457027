use Rattle.std.proofs.Common.{◌≡◌, ◌<◌, ◌*◌, ℕ, ◌∙◌, get_or, rules, to_z, of_z}
use Rattle.std.proofs.lemmas.Int.{to_z-of_z}
use Rattle.std.specs.Int.{w32, w128}
use Rattle.arrow_layout.proofs.SignedNumbers.{fits_32}
use Rattle.arrow_layout.proofs.intervals.i32_at.Goals as goal

-- the number has 32 bits
pub overflow_cast-result : goal.overflow_cast-result
overflow_cast-result c =
    let small : (i : ℕ) → get_or c.args.bytes.now i 0 < 256 = search rules in
    let same : to_z w128 (of_z w128 c.int_at.result) ≡ c.int_at.result = search rules in
    fits_32 _ c.args.bytes.now (4 * c.args.i) small c.requires (same ∙ c.int_at.ensures)

-- so it is the same as such a number
pub returns : goal.returns
returns c =
    let small : (i : ℕ) → get_or c.args.bytes.now i 0 < 256 = search rules in
    let same : to_z w128 (of_z w128 c.int_at.result) ≡ c.int_at.result = search rules in
    let is = same ∙ c.int_at.ensures in
    to_z-of_z w32 _ (fits_32 _ c.args.bytes.now (4 * c.args.i) small c.requires is) ∙ is
