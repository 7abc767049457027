use Rattle.std.proofs.Common.{◌≡◌, ◌*◌, ◌+◌, ◌++◌, length, take, ap, arith, ◌∙◌, length-take, length-append}
use mir.Syntax.{w128}
use mir.Val.{to_z}
use Rattle.std.proofs.lemmas.Grind.{common_steps}
use Rattle.std.proofs.lemmas.List.{take-take}
use Rattle.arrow_bits.specs.Bitmap.{PutsBit}
use Rattle.arrow_layout.specs.Form.{offset_bytes}
use Rattle.arrow_bits.specs.Numbers.{int_bytes}
use Rattle.arrow_builder.proofs.Putting.{after_err, ok_gives, err_gives, start_stays}
use Rattle.arrow_builder.proofs.Ranging.{offset_appended, offset_whole, one_more_there, places_stay, ranges_put, ranges_stay}
use Rattle.arrow_builder.proofs.slots.put_range.Goals as goal

pub returns-in_err-put_int-clause-places : goal.returns-in_err-put_int-clause-places
returns-in_err-put_int-clause-places c =
    let old = c.args.buffers.now.values.items in
    let n = offset_bytes c.args.width * (c.args.at + 1) in
    let items : c.put_int.new.out.items ≡ take n old = grind (arith, common_steps) in
    places_stay c.args.width c.args.at old c.put_int.new.out.items (ap (take n) items ∙ take-take n n old (omega arith))

pub returns-in_err-put_int-clause-held : goal.returns-in_err-put_int-clause-held
returns-in_err-put_int-clause-held c =
    let old = c.args.buffers.now.values.items in
    let n = offset_bytes c.args.width * (c.args.at + 1) in
    let items : c.put_int.new.out.items ≡ take n old = grind (arith, common_steps) in
    let long : length c.put_int.new.out.items ≡ n = ap (λ xs. length xs) items ∙ grind (arith, length-take, c.requires.kept.there) in
    after_err c.from_residual.result
    (ranges_stay c.args.width c.args.at c.args.buffers.now.validity.items c.args.buffers.now.validity.items old c.put_int.new.out.items c.requires.kept c.requires.kept.bits (omega (arith, long))
    (places_stay c.args.width c.args.at old c.put_int.new.out.items (ap (take n) items ∙ take-take n n old (omega arith))))

pub returns-clause-places : goal.returns-clause-places
returns-clause-places c =
    let old = c.args.buffers.now.values.items in
    let n = offset_bytes c.args.width * (c.args.at + 1) in
    let cut : c.truncate.new.self.items ≡ take n old = grind (arith, common_steps) in
    places_stay c.args.width c.args.at old c.put_int.new.out.items
    (ap (take n) (c.in_ok-put_int.ensures.bytes ∙ ap (λ xs. xs ++ int_bytes c.bytes-bytes.result (to_z w128 c.args.slot.end)) cut) ∙ start_stays old (int_bytes c.bytes-bytes.result (to_z w128 c.args.slot.end)) n c.requires.kept.there)

pub returns-clause-end : goal.returns-clause-end
returns-clause-end c =
    let old = c.args.buffers.now.values.items in
    let n = offset_bytes c.args.width * (c.args.at + 1) in
    let low = c.is_offset.ensures.0 (grind (arith, common_steps)) in
    let cut : c.truncate.new.self.items ≡ take n old = grind (arith, common_steps) in
    let long : length c.truncate.new.self.items ≡ n = ap (λ xs. length xs) cut ∙ grind (arith, length-take, c.requires.kept.there) in
    ok_gives c.put_bit.result (λ (puts : PutsBit c.args.at c.args.slot.valid c.args.buffers.now.validity.items c.put_bit.new.bytes.items).
    offset_appended c.args.width c.args.at c.args.slot.end c.bytes-bytes.result c.truncate.new.self.items c.put_int.new.out.items (to_z w128 c.args.slot.end)
    c.bytes-bytes.ensures.same (offset_whole c.args.width c.args.slot.end low) low long c.in_ok-put_int.ensures.reads)
    c.put_bit.ensures.ok

pub returns-clause-kept : goal.returns-clause-kept
returns-clause-kept c =
    let old = c.args.buffers.now.values.items in
    let n = offset_bytes c.args.width * (c.args.at + 1) in
    let low = c.is_offset.ensures.0 (grind (arith, common_steps)) in
    let cut : c.truncate.new.self.items ≡ take n old = grind (arith, common_steps) in
    let long : length c.truncate.new.self.items ≡ n = ap (λ xs. length xs) cut ∙ grind (arith, length-take, c.requires.kept.there) in
    let there = one_more_there c.args.width c.args.at c.truncate.new.self.items c.put_int.new.out.items c.bytes-bytes.result (to_z w128 c.args.slot.end) c.bytes-bytes.ensures.same long c.in_ok-put_int.ensures.bytes in
    let put = offset_appended c.args.width c.args.at c.args.slot.end c.bytes-bytes.result c.truncate.new.self.items c.put_int.new.out.items (to_z w128 c.args.slot.end)
    c.bytes-bytes.ensures.same (offset_whole c.args.width c.args.slot.end low) low long c.in_ok-put_int.ensures.reads in
    ok_gives c.put_bit.result (λ (puts : PutsBit c.args.at c.args.slot.valid c.args.buffers.now.validity.items c.put_bit.new.bytes.items).
    ranges_put c.args.width c.args.at c.args.slot.end c.args.buffers.now.validity.items c.put_bit.new.bytes.items old c.put_int.new.out.items c.requires.kept (omega (arith, puts.long)) there
    (returns-clause-places c) c.requires.order low put)
    c.put_bit.ensures.ok

pub returns-clause-held : goal.returns-clause-held
returns-clause-held c =
    let old = c.args.buffers.now.values.items in
    let n = offset_bytes c.args.width * (c.args.at + 1) in
    let cut : c.truncate.new.self.items ≡ take n old = grind (arith, common_steps) in
    let long : length c.truncate.new.self.items ≡ n = ap (λ xs. length xs) cut ∙ grind (arith, length-take, c.requires.kept.there) in
    let more = int_bytes c.bytes-bytes.result (to_z w128 c.args.slot.end) in
    let grown : length c.put_int.new.out.items ≡ length c.truncate.new.self.items + length more = ap (λ xs. length xs) c.in_ok-put_int.ensures.bytes ∙ length-append c.truncate.new.self.items more in
    err_gives c.put_bit.result (λ (same : c.put_bit.new.bytes.items ≡ c.args.buffers.now.validity.items).
    ranges_stay c.args.width c.args.at c.args.buffers.now.validity.items c.put_bit.new.bytes.items old c.put_int.new.out.items c.requires.kept
    (rw same c.requires.kept.bits) (omega (arith, long, grown)) (returns-clause-places c))
    c.put_bit.ensures.err
