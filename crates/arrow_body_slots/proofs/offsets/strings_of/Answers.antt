use Rattle.std.proofs.Common.{refl, subst}
use Rattle.arrow_layout.specs.PlainValue.{binary_value, utf8_value}
use Rattle.arrow_data.specs.View.{AreBuffersOf}
use Rattle.arrow_body_slots.proofs.Holding.{bytes_held}
use Rattle.arrow_body_slots.proofs.offsets.strings_of.Goals as goal

-- byte strings
pub returns-in-Binaries : goal.returns-in-Binaries
returns-in-Binaries c =
    let of = c.in-Binaries.of in
    let held = subst (AreBuffersOf c.args.array.now) c.in-Binaries.is c.buffers.ensures in
    bytes_held of.width of.validity.now of.offsets.now of.bytes.now c.args.array.now.raw binary_value (λ bytes. refl) c.of.result c.of.ensures held.1 held.2

-- and texts
pub returns-in-Texts : goal.returns-in-Texts
returns-in-Texts c =
    let of = c.in-Texts.of in
    let held = subst (AreBuffersOf c.args.array.now) c.in-Texts.is c.buffers.ensures in
    bytes_held of.width of.validity.now of.offsets.now of.bytes.now c.args.array.now.raw utf8_value (λ bytes. refl) c.of-in-Texts.result c.of-in-Texts.ensures held.1 held.3
