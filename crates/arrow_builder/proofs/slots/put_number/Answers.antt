use mir.Syntax.{w128}
use mir.Val.{to_z, of_z}
use Rattle.std.proofs.Common.{◌≡◌, ◌*◌, ◌++◌, Bool, length, take, refl, ap, subst, arith, rules, ◌∙◌, length-take}
use Rattle.std.proofs.lemmas.Grind.{common_steps}
use Rattle.std.proofs.lemmas.List.{take-take}
use Rattle.arrow_bits.specs.Numbers.{int_bytes, int_of, FitsInt}
use Rattle.arrow_bits.specs.Bitmap.{PutsBit}
use Rattle.arrow_layout.specs.Slots.{is_valid_at}
use Rattle.std.specs.Prelude.{is_some}
use Rattle.arrow_builder.proofs.Putting.{numbers_put, numbers_stay, start_stays, after_err, ok_gives, err_gives}
use Rattle.arrow_builder.proofs.slots.put_number.Goals as goal

pub returns-in_err-put_int-clause-stay : goal.returns-in_err-put_int-clause-stay
returns-in_err-put_int-clause-stay c =
    let old = c.args.buffers.now.values.items in
    let n = c.args.width * c.args.at in
    let items : c.put_int.new.out.items ≡ take n old = grind (arith, common_steps) in
    let start : take n c.put_int.new.out.items ≡ take n old = ap (take n) items ∙ take-take n n old (omega arith) in
    after_err c.from_residual.result
    (λ signed. numbers_stay c.args.at c.args.width signed c.args.buffers.now.validity.items c.args.buffers.now.validity.items old c.put_int.new.out.items (λ j h. refl) start)

pub returns-clause-put : goal.returns-clause-put
returns-clause-put c =
    let old = c.args.buffers.now.values.items in
    let n = c.args.width * c.args.at in
    let cut : c.truncate.new.self.items ≡ take n old = grind (arith, common_steps) in
    let long : length (take n old) ≡ n = grind (arith, length-take, c.requires.kept.long) in
    let more = int_bytes c.args.width c.stored_number.result in
    let whole : to_z w128 (of_z w128 c.stored_number.result) ≡ c.stored_number.result = search rules in
    let items : c.put_int.new.out.items ≡ take n old ++ more =
    c.in_ok-put_int.ensures.bytes ∙ ap (λ xs. xs ++ int_bytes c.args.width (to_z w128 (of_z w128 c.stored_number.result))) cut ∙ ap (λ z. take n old ++ int_bytes c.args.width z) whole in
    let start : take n c.put_int.new.out.items ≡ take n old = ap (take n) items ∙ start_stays old more n c.requires.kept.long in
    let place : length c.truncate.new.self.items ≡ n = ap (λ xs. length xs) cut ∙ long in
    let reads : (sign : Bool) → FitsInt c.args.width sign c.stored_number.result → int_of c.put_int.new.out.items n c.args.width sign ≡ c.stored_number.result =
    subst (λ z. (sign : Bool) → FitsInt c.args.width sign z → int_of c.put_int.new.out.items n c.args.width sign ≡ z) whole
    (subst (λ p. (sign : Bool) → FitsInt c.args.width sign (to_z w128 (of_z w128 c.stored_number.result)) → int_of c.put_int.new.out.items p c.args.width sign ≡ to_z w128 (of_z w128 c.stored_number.result))
    place c.in_ok-put_int.ensures.reads) in
    let bit : c.is_some.result ≡ is_some c.args.number = grind (arith, common_steps) in
    ok_gives c.put_bit.result
    (λ (puts : PutsBit c.args.at c.is_some.result c.args.buffers.now.validity.items c.put_bit.new.bytes.items). λ signed fits.
    numbers_put c.args.at c.args.width signed c.args.number c.stored_number.result c.args.buffers.now.validity.items c.put_bit.new.bytes.items old
    c.put_int.new.out.items c.requires.kept (subst (λ b. PutsBit c.args.at b c.args.buffers.now.validity.items c.put_bit.new.bytes.items) bit puts)
    start reads c.stored_number.ensures.same fits)
    c.put_bit.ensures.ok

pub returns-clause-stay : goal.returns-clause-stay
returns-clause-stay c =
    let old = c.args.buffers.now.values.items in
    let n = c.args.width * c.args.at in
    let cut : c.truncate.new.self.items ≡ take n old = grind (arith, common_steps) in
    let more = int_bytes c.args.width c.stored_number.result in
    let whole : to_z w128 (of_z w128 c.stored_number.result) ≡ c.stored_number.result = search rules in
    let items : c.put_int.new.out.items ≡ take n old ++ more =
    c.in_ok-put_int.ensures.bytes ∙ ap (λ xs. xs ++ int_bytes c.args.width (to_z w128 (of_z w128 c.stored_number.result))) cut ∙ ap (λ z. take n old ++ int_bytes c.args.width z) whole in
    let start : take n c.put_int.new.out.items ≡ take n old = ap (take n) items ∙ start_stays old more n c.requires.kept.long in
    err_gives c.put_bit.result
    (λ (same : c.put_bit.new.bytes.items ≡ c.args.buffers.now.validity.items). λ signed.
    numbers_stay c.args.at c.args.width signed c.args.buffers.now.validity.items c.put_bit.new.bytes.items old c.put_int.new.out.items
    (λ j h. ap (λ v. is_valid_at v j) same) start)
    c.put_bit.ensures.err
