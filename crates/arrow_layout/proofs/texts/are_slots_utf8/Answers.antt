use Rattle.std.proofs.Common.{◌≡◌, IsUtf8, rules, slice_range}
use Rattle.std.proofs.lemmas.Bool.{MatchBool-at_true}
use Rattle.arrow_layout.specs.Slots.{place_of}
use Rattle.arrow_layout.proofs.Cuts.{ascii_texts, cuts_texts}
use Rattle.arrow_layout.proofs.texts.are_slots_utf8.Goals as goal

-- if all bytes are ASCII, each slot is a text
pub returns-then-is_ascii : goal.returns-then-is_ascii
returns-then-is_ascii c =
    let s = c.args.strings in
    (λ _. ascii_texts s.width c.args.len s.validity.now s.offsets.now s.bytes.now c.all_slots-bytes.result.now c.all_slots-bytes.ensures.rising c.all_slots-bytes.ensures.same (MatchBool-at_true _ _ c.if-is_ascii.true c.is_ascii.ensures.cases), λ _. search rules)

pub returns-then-are_cuts : goal.returns-then-are_cuts
returns-then-are_cuts c =
    let s = c.args.strings in
    let whole : c.in-Ok.text.now ≡ slice_range s.bytes.now (place_of s.width s.offsets.now 0) (place_of s.width s.offsets.now c.args.len) = search rules in
    let utf8 : IsUtf8 c.in-Ok.text.now = search rules in
    let of = c.ranges-in-Ok.ensures in
    let cuts = rw (of.width, of.len, of.bytes) at (c.are_cuts.ensures.0 c.if-are_cuts.true) in
    (λ _. cuts_texts s.width c.args.len s.validity.now s.offsets.now s.bytes.now c.in-Ok.text.now c.all_slots-bytes.ensures.rising whole utf8 cuts, λ _. c.if-are_cuts.true)
