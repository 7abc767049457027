use Rattle.std.proofs.Common.{◌≡◌, ◌<◌, ◌+◌, ◌++◌, length, get_or, map, ap, sym, ◌∙◌, subst, arith}
use Rattle.std.specs.Rc.{rc_value}
use Rattle.arrow_data.specs.Column.{ValueList}
use Rattle.arrow_data.specs.Segments.{Between, all_segments, block_segments, starts_of}
use Rattle.arrow_data.proofs.Blocks.{found_in_all, in_all}
use Rattle.arrow_data.proofs.Segments.{length-starts_of, segment_value}
use Rattle.arrow_data.proofs.array.Dictionary.value.Goals as goal

pub returns : goal.returns
returns c =
    let d = c.self.inside in
    let values = sym (ap (λ (l : ValueList). l.values) c.self.view_is) in
    let p = c.part_with-segments.ensures in
    let part = c.part_with-segments.result.now in
    let r = c.segment_before.result in
    let s = c.index-segments-segment_before.result in
    let n = length p.before + r in
    let all : all_segments d ≡ p.before ++ (part ++ p.after) =
    ap (λ os. block_segments (map rc_value os) ++ d.segments.items) (sym c.deref.ensures.value) ∙ ap (λ ss. block_segments (map rc_value c.deref.result.now) ++ ss) (sym c.deref-2.ensures.value) ∙ p.whole in
    let between : Between (starts_of (all_segments d)) n (n + 1) c.args.i =
    subst (λ xs. Between (starts_of xs) n (n + 1) c.args.i) (sym all) (in_all p.before part p.after r c.args.i c.segment_before.ensures p.high) in
    let inside : r < length part = omega (arith, c.segment_before.ensures.inside, length-starts_of part) in
    let is : s ≡ get_or (all_segments d) n s = found_in_all p.before part p.after r s inside c.index-segments-segment_before.is ∙ ap (λ xs. get_or xs n s) (sym all) in
    let found = segment_value c.args.self.now (all_segments d) n (n + 1) c.args.i s c.self.invariant.starts (rw (ap (λ (l : ValueList). l.data_type) (sym c.self.view_is)) c.self.invariant.typed) values c.requires between (omega arith) is in
    rw c.deref-3.ensures found
