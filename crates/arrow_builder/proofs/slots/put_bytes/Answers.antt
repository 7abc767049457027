use Rattle.std.proofs.Common.{◌≡◌, ◌+◌, length, take, refl, ap, sym, subst, arith, ◌∙◌, length-take}
use Rattle.std.specs.Prelude.{is_some}
use Rattle.std.proofs.lemmas.Grind.{common_steps}
use Rattle.arrow_layout.specs.Slots.{is_valid_at, place_of}
use Rattle.arrow_builder.specs.Puts.{PutsSlot, PutsValid, StaySlots, part_slot, value_or_null}
use Rattle.arrow_builder.proofs.Putting.{after_err, err_gives, kept_start, ok_both}
use Rattle.arrow_builder.proofs.Ranging.{parts_put, parts_stay}
use Rattle.arrow_builder.proofs.slots.put_bytes.Goals as goal

pub returns-in_err-append_part-clause-stay : goal.returns-in_err-append_part-clause-stay
returns-in_err-append_part-clause-stay c =
    let old = c.args.buffers.now.bytes.items in
    let v = c.args.buffers.now.validity.items in
    let o = c.args.buffers.now.values.items in
    let n = place_of c.args.width o c.args.at in
    let cut : c.truncate.new.self.items ≡ take n old = grind (arith, common_steps) in
    let start = kept_start old c.truncate.new.self.items c.append_part.new.bytes.items n c.requires.kept.inside cut c.append_part.ensures.start in
    after_err c.from_residual.result
    (λ value. parts_stay value c.args.width c.args.at v v o o old c.append_part.new.bytes.items c.requires.kept.ranges (λ j h. refl) (λ j h. refl) start)

pub returns-clause-put : goal.returns-clause-put
returns-clause-put c =
    let old = c.args.buffers.now.bytes.items in
    let v = c.args.buffers.now.validity.items in
    let o = c.args.buffers.now.values.items in
    let n = place_of c.args.width o c.args.at in
    let cut : c.truncate.new.self.items ≡ take n old = grind (arith, common_steps) in
    let long : length c.truncate.new.self.items ≡ n = ap (λ xs. length xs) cut ∙ grind (arith, length-take, c.requires.kept.inside) in
    let start = kept_start old c.truncate.new.self.items c.append_part.new.bytes.items n c.requires.kept.inside cut c.append_part.ensures.start in
    let bit : c.is_some.result ≡ is_some c.args.part = grind (arith, common_steps) in
    let end : c.len.result ≡ length c.append_part.new.bytes.items = grind (arith, common_steps) in
    ok_both c.put_range.result
    (λ (valid : PutsValid c.args.at c.is_some.result v c.put_range.new.buffers.validity.items) (stops : place_of c.args.width c.put_range.new.buffers.values.items (c.args.at + 1) ≡ c.len.result). λ value.
    subst (λ xs. PutsSlot c.args.at (value_or_null (λ b. value b.now) c.args.part) (part_slot value c.args.width v o old) (part_slot value c.args.width c.put_range.new.buffers.validity.items c.put_range.new.buffers.values.items xs)) (sym c.put_range.ensures.bytes)
    (parts_put (λ b. b.now) value c.args.width c.args.at c.args.part v c.put_range.new.buffers.validity.items o c.put_range.new.buffers.values.items old c.truncate.new.self.items c.append_part.new.bytes.items
    c.requires.kept.ranges (subst (λ b. PutsValid c.args.at b v c.put_range.new.buffers.validity.items) bit valid) c.put_range.ensures.places start long (stops ∙ end) c.in_ok-append_part.ensures.same))
    c.put_range.ensures.valid c.put_range.ensures.end

pub returns-clause-stay : goal.returns-clause-stay
returns-clause-stay c =
    let old = c.args.buffers.now.bytes.items in
    let v = c.args.buffers.now.validity.items in
    let o = c.args.buffers.now.values.items in
    let n = place_of c.args.width o c.args.at in
    let cut : c.truncate.new.self.items ≡ take n old = grind (arith, common_steps) in
    let start = kept_start old c.truncate.new.self.items c.append_part.new.bytes.items n c.requires.kept.inside cut c.append_part.ensures.start in
    err_gives c.put_range.result
    (λ (same : c.put_range.new.buffers.validity.items ≡ v). λ value.
    subst (λ xs. StaySlots c.args.at (part_slot value c.args.width v o old) (part_slot value c.args.width c.put_range.new.buffers.validity.items c.put_range.new.buffers.values.items xs)) (sym c.put_range.ensures.bytes)
    (parts_stay value c.args.width c.args.at v c.put_range.new.buffers.validity.items o c.put_range.new.buffers.values.items old c.append_part.new.bytes.items c.requires.kept.ranges
    (λ j h. ap (λ x. is_valid_at x j) same) c.put_range.ensures.places start))
    c.put_range.ensures.same
