use Rattle.std.proofs.Common.{◌≡◌, ◌<◌, length, get_or, map, ap, sym, ◌∙◌, subst, arith, inl, inr}
use Rattle.std.proofs.lemmas.Bool.{cases_lt}
use Rattle.std.proofs.lemmas.List.{get_or-map, length-map}
use Rattle.std.specs.Rc.{rc_value}
use Rattle.arrow_data.specs.Segments.{Between, IsPartWith, block_starts, starts_of}
use Rattle.arrow_data.specs.declared.array.Block.{Block}
use Rattle.arrow_data.proofs.Blocks.{block_part, blocks_begin, last_part}
use Rattle.arrow_data.proofs.dictionary.part_with.Goals as goal

pub block_before-requires : goal.block_before-requires
block_before-requires c =
    let past : 0 < length c.args.last.now → c.args.i < get_or (starts_of c.args.last.now) 0 0 =
    λ h. elim (cases_lt c.args.i (get_or (starts_of c.args.last.now) 0 0)) [ inl l ↦ l | inr g ↦ let yes = c.begin_before.ensures.1 (h, g) in absurd (cc) ] in
    subst (λ n. Between (block_starts (map rc_value c.args.older.now)) 0 n c.args.i) (length-map c.args.older.now rc_value)
    (blocks_begin (map rc_value c.args.older.now) c.args.last.now c.args.i c.requires.starts c.requires.blocks c.requires.inside past)

pub returns-then-begin_before : goal.returns-then-begin_before
returns-then-begin_before c =
    let yes = c.begin_before.ensures.0 c.if-begin_before.true in
    last_part (map rc_value c.args.older.now) c.args.last.now c.args.i yes.0 yes.1

pub returns : goal.returns
returns c =
    let past : 0 < length c.args.last.now → c.args.i < get_or (starts_of c.args.last.now) 0 0 =
    λ h. elim (cases_lt c.args.i (get_or (starts_of c.args.last.now) 0 0)) [ inl l ↦ l | inr g ↦ let yes = c.begin_before.ensures.1 (h, g) in absurd (cc) ] in
    let bs = map rc_value c.args.older.now in
    let r = c.block_before.result in
    let read = c.index-older-block_before.result in
    let inside : r < length c.args.older.now = omega (arith, c.block_before.ensures.inside, length-map bs (λ (b : Block). b.start), length-map c.args.older.now rc_value) in
    let block : Block = rc_value read in
    let is : block ≡ get_or bs r block = sym (get_or-map rc_value c.args.older.now r read block inside ∙ ap rc_value (sym c.index-older-block_before.is)) in
    let part = block_part bs c.args.last.now c.args.i r block c.requires.blocks is c.block_before.ensures past in
    subst (IsPartWith bs c.args.last.now c.args.i) (sym (c.deref-2.ensures.value ∙ ap (λ (b : Block). b.segments.items) c.deref.ensures)) part
