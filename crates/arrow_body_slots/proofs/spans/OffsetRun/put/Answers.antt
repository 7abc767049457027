use Rattle.std.proofs.Common.{◌≡◌, ◌≤◌, ◌+◌, ◌-◌, ◌*◌, ◌%◌, ◌^◌, length, drop, ap, subst, ◌∙◌, arith, length-take, length-drop}
use Rattle.std.specs.Prelude.{slice_range}
use Rattle.std.proofs.lemmas.Result.{on_ok_weaker}
use Rattle.arrow_layout.specs.Form.{offset_bytes}
use Rattle.arrow_layout.specs.Slots.{place_of}
use Rattle.arrow_layout.specs.declared.form.OffsetWidth.TheVariants.{Small, Large}
use Rattle.arrow_body_slots.proofs.Moving.{puts_moved}
use Rattle.arrow_body_slots.proofs.spans.OffsetRun.put.Goals as goal

-- of four bytes
pub returns-in-Small : goal.returns-in-Small
returns-in-Small c =
    let s = c.args.self in
    let offsets = s.offsets.now in
    let by = ((c.args.end + (18446744073709551616 - c.at.result)) % 18446744073709551616) % 4294967296 in
    let room : 4 * (s.stop + 1) ≤ length offsets = subst (λ w. offset_bytes w * (s.stop + 1) ≤ length offsets) c.in-Small.is c.requires.long in
    let long : length (slice_range offsets (4 * (s.start + 1)) (4 * (s.stop + 1))) ≡ 4 * (s.stop - s.start) =
    omega (arith, length-take (4 * (s.stop + 1) - 4 * (s.start + 1)) (drop (4 * (s.start + 1)) offsets), length-drop (4 * (s.start + 1)) offsets, room, c.requires.order) in
    let here : c.at.result ≡ place_of Small offsets s.start = c.at.ensures ∙ ap (λ w. place_of w offsets s.start) c.in-Small.is in
    let first : (place_of Small offsets s.start + by) % 2 ^ 32 ≡ c.args.end % 2 ^ 32 = omega (arith, here, c.at.type_inv, c.ranges.end.fits) in
    on_ok_weaker c.put_small.result (λ added. puts_moved s Small by c.args.end c.args.out.now.items c.put_small.new.out.items c.in-Small.is first (added (s.stop - s.start) long)) c.put_small.ensures

-- of eight
pub returns-in-Large : goal.returns-in-Large
returns-in-Large c =
    let s = c.args.self in
    let offsets = s.offsets.now in
    let by = (c.args.end + (18446744073709551616 - c.at.result)) % 18446744073709551616 in
    let room : 8 * (s.stop + 1) ≤ length offsets = subst (λ w. offset_bytes w * (s.stop + 1) ≤ length offsets) c.in-Large.is c.requires.long in
    let long : length (slice_range offsets (8 * (s.start + 1)) (8 * (s.stop + 1))) ≡ 8 * (s.stop - s.start) =
    omega (arith, length-take (8 * (s.stop + 1) - 8 * (s.start + 1)) (drop (8 * (s.start + 1)) offsets), length-drop (8 * (s.start + 1)) offsets, room, c.requires.order) in
    let here : c.at.result ≡ place_of Large offsets s.start = c.at.ensures ∙ ap (λ w. place_of w offsets s.start) c.in-Large.is in
    let first : (place_of Large offsets s.start + by) % 2 ^ 64 ≡ c.args.end % 2 ^ 64 = omega (arith, here, c.at.type_inv, c.ranges.end.fits) in
    on_ok_weaker c.put_large.result (λ added. puts_moved s Large by c.args.end c.args.out.now.items c.put_large.new.out.items c.in-Large.is first (added (s.stop - s.start) long)) c.put_large.ensures
