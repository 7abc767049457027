use Rattle.std.proofs.Common.{◌≡◌, ◌↔◌, IsTrue, IsUtf8, true, rules, subst}
use Rattle.arrow_layout.specs.Slots.{is_valid_at}
use Rattle.arrow_layout.proofs.Cuts.{slot_in}
use Rattle.arrow_layout.proofs.texts.is_part.Goals as goal

pub returns : goal.returns
returns c =
    let places = c.places_of-start in
    let of = c.ranges-2.ensures in
    let before = rw (of.width, of.bytes) at places.ensures.before in
    let order = rw (of.width, of.bytes) at places.ensures.order in
    let after = rw (of.width, of.len, of.bytes) at places.ensures.after in
    let start = rw (of.width, of.bytes) at places.ensures.start in
    let stop = rw (of.width, of.bytes) at places.ensures.stop in
    let valid : is_valid_at c.args.strings.validity.now c.args.j ≡ true = search rules in
    let part = slot_in c.args.strings.width c.args.strings.offsets.now c.args.strings.bytes.now c.args.text.now c.args.len c.args.j places.result.0 places.result.1
    c.requires.whole before order after start stop in
    let same = subst (λ bytes. IsTrue c.is_text.result ↔ IsUtf8 bytes) part c.is_text.ensures in
    (λ t _. same.0 t, λ text. same.1 (text valid))
