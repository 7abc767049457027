use Rattle.std.proofs.Common.{◌-◌, ◌*◌, ◌/◌, ◌%◌, not, ap, ◌∙◌, arith}
use Rattle.std.specs.Prelude.{count_by}
use Rattle.arrow_bits.specs.Bitmap.{bits_of}
use Rattle.arrow_body_slots.proofs.Marking.{rest_of_bytes, zeros_between}
use Rattle.arrow_body_slots.proofs.bitmap.zeros.Goals as goal

-- so the zeros before it are not more
pub overflow_sub-result : goal.overflow_sub-result
overflow_sub-result c =
    let bytes = c.args.bits.bytes.now in
    let start = c.args.bits.start in
    let stop = c.args.bits.stop in
    let first = start / 8 in
    let all = c.zeros_of.ensures ∙ ap (count_by not) (ap (bits_of (stop - 8 * first)) (rest_of_bytes bytes first)) in
    let before = c.zeros_of-2.ensures ∙ ap (count_by not) (ap (bits_of (start % 8)) (rest_of_bytes bytes first)) in
    omega (arith, all, before, zeros_between bytes start stop c.requires.order)

-- and the remaining zeros are those of the range
pub returns : goal.returns
returns c =
    let bytes = c.args.bits.bytes.now in
    let start = c.args.bits.start in
    let stop = c.args.bits.stop in
    let first = start / 8 in
    let all = c.zeros_of.ensures ∙ ap (count_by not) (ap (bits_of (stop - 8 * first)) (rest_of_bytes bytes first)) in
    let before = c.zeros_of-2.ensures ∙ ap (count_by not) (ap (bits_of (start % 8)) (rest_of_bytes bytes first)) in
    omega (arith, all, before, zeros_between bytes start stop c.requires.order)
