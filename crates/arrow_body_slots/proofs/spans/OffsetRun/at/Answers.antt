use Rattle.std.proofs.Common.{◌≤◌, ◌+◌, ◌*◌, length, ap, sym, subst, ◌∙◌, arith}
use Rattle.arrow_bits.proofs.Reading.{read_number}
use Rattle.arrow_layout.specs.Form.{offset_bytes}
use Rattle.arrow_layout.specs.Slots.{place_of}
use Rattle.arrow_body_slots.proofs.spans.OffsetRun.at.Goals as goal

-- the number at that offset is read
pub returns-in-Small : goal.returns-in-Small
returns-in-Small c =
    let s = c.args.self in
    let room : 4 * (s.stop + 1) ≤ length s.offsets.now = subst (λ w. offset_bytes w * (s.stop + 1) ≤ length s.offsets.now) c.in-Small.is c.requires.there.long in
    c.from.ensures ∙ c.read_u32.ensures ∙ read_number 4 (4 * c.args.j) s.offsets.now (omega (arith, room, c.requires.inside))
    ∙ ap (λ w. place_of w s.offsets.now c.args.j) (sym c.in-Small.is)

pub returns-in-Large : goal.returns-in-Large
returns-in-Large c =
    let s = c.args.self in
    let room : 8 * (s.stop + 1) ≤ length s.offsets.now = subst (λ w. offset_bytes w * (s.stop + 1) ≤ length s.offsets.now) c.in-Large.is c.requires.there.long in
    c.read_u64.ensures ∙ read_number 8 (8 * c.args.j) s.offsets.now (omega (arith, room, c.requires.inside))
    ∙ ap (λ w. place_of w s.offsets.now c.args.j) (sym c.in-Large.is)
