use Rattle.std.proofs.Common.{◌≡◌, ◌*◌, length, take, refl, ap, subst, arith, ◌∙◌, length-take}
use Rattle.std.specs.Prelude.{is_some}
use Rattle.std.proofs.lemmas.Grind.{common_steps}
use Rattle.arrow_bits.specs.Bitmap.{PutsBit}
use Rattle.arrow_layout.specs.Slots.{is_valid_at}
use Rattle.arrow_builder.proofs.Putting.{after_err, err_gives, fixed_in_slot, fixed_put, fixed_stay, kept_start, ok_gives}
use Rattle.arrow_builder.proofs.slots.put_fixed.Goals as goal

pub returns-in_err-append_fixed-clause-stay : goal.returns-in_err-append_fixed-clause-stay
returns-in_err-append_fixed-clause-stay c =
    let old = c.args.buffers.now.values.items in
    let n = c.args.width * c.args.at in
    let cut : c.truncate.new.self.items ≡ take n old = grind (arith, common_steps) in
    after_err c.from_residual.result
    (fixed_stay c.args.at c.args.width c.args.buffers.now.validity.items c.args.buffers.now.validity.items old c.append_fixed.new.values.items (λ j h. refl)
    (kept_start old c.truncate.new.self.items c.append_fixed.new.values.items n c.requires.kept.long cut c.append_fixed.ensures.start))

pub returns-clause-put : goal.returns-clause-put
returns-clause-put c =
    let old = c.args.buffers.now.values.items in
    let n = c.args.width * c.args.at in
    let cut : c.truncate.new.self.items ≡ take n old = grind (arith, common_steps) in
    let long : length c.truncate.new.self.items ≡ n = ap (λ xs. length xs) cut ∙ grind (arith, length-take, c.requires.kept.long) in
    let bit : c.is_some.result ≡ is_some c.args.bytes = grind (arith, common_steps) in
    ok_gives c.put_bit.result
    (λ (puts : PutsBit c.args.at c.is_some.result c.args.buffers.now.validity.items c.put_bit.new.bytes.items).
    fixed_put (λ b. b.now) c.args.at c.args.width c.args.bytes c.args.buffers.now.validity.items c.put_bit.new.bytes.items old
    c.append_fixed.new.values.items c.requires.kept
    (subst (λ b. PutsBit c.args.at b c.args.buffers.now.validity.items c.put_bit.new.bytes.items) bit puts)
    (kept_start old c.truncate.new.self.items c.append_fixed.new.values.items n c.requires.kept.long cut c.append_fixed.ensures.start)
    (fixed_in_slot (λ b. b.now) c.args.bytes c.truncate.new.self.items c.append_fixed.new.values.items n c.args.width long
    c.in_ok-append_fixed.ensures.same c.requires.fits))
    c.put_bit.ensures.ok

pub returns-clause-stay : goal.returns-clause-stay
returns-clause-stay c =
    let old = c.args.buffers.now.values.items in
    let n = c.args.width * c.args.at in
    let cut : c.truncate.new.self.items ≡ take n old = grind (arith, common_steps) in
    err_gives c.put_bit.result
    (λ (same : c.put_bit.new.bytes.items ≡ c.args.buffers.now.validity.items).
    fixed_stay c.args.at c.args.width c.args.buffers.now.validity.items c.put_bit.new.bytes.items old c.append_fixed.new.values.items
    (λ j h. ap (λ v. is_valid_at v j) same)
    (kept_start old c.truncate.new.self.items c.append_fixed.new.values.items n c.requires.kept.long cut c.append_fixed.ensures.start))
    c.put_bit.ensures.err
