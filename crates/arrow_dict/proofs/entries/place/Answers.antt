use Rattle.std.proofs.Common.{refl, subst, sym, ◌∙◌, w64}
use Rattle.std.proofs.lemmas.Int.{to_z-of_z}
use Rattle.arrow_dict.specs.Dictionaries.{IsRising}
use Rattle.arrow_dict.proofs.Places.{at_passed, gap_passed, listed_gap, put_in, put_in_rises, written, written_rises}
use Rattle.arrow_dict.proofs.entries.place.Goals as goal

-- the dictionary replaces the one that was there
pub returns-in-Ok-clause-ok : goal.returns-in-Ok-clause-ok
returns-in-Ok-clause-ok c =
    let ds = c.args.entries.now.items in
    let at = at_passed ds c.deref.result.now c.args.id c.in-Ok.at (sym c.deref.ensures.value) c.ranges.id c.in-Ok.ensures in
    written ds ds c.args.id _ c.in-Ok.at c.args.dictionary c.requires refl (to_z-of_z w64 c.args.id c.ranges.id) c.index_mut.result.now at c.index_mut.ensures.value

-- it is in the gap
pub returns-in_ok-insert-in-Err-clause-ok : goal.returns-in_ok-insert-in-Err-clause-ok
returns-in_ok-insert-in-Err-clause-ok c =
    let ds = c.args.entries.now.items in
    let gap = gap_passed ds c.deref.result.now c.args.id c.in-Err.at (sym c.deref.ensures.value) c.ranges.id c.in-Err.ensures in
    c.in_ok-insert-in-Err.ensures.items
    ∙ put_in ds ds c.args.id _ c.in-Err.at c.args.dictionary c.requires refl (to_z-of_z w64 c.args.id c.ranges.id) gap

-- the ids still rise
pub returns-in-Ok-clause-rising : goal.returns-in-Ok-clause-rising
returns-in-Ok-clause-rising c =
    let ds = c.args.entries.now.items in
    let at = at_passed ds c.deref.result.now c.args.id c.in-Ok.at (sym c.deref.ensures.value) c.ranges.id c.in-Ok.ensures in
    written_rises ds ds c.args.id _ c.in-Ok.at c.args.dictionary c.requires refl (to_z-of_z w64 c.args.id c.ranges.id) c.index_mut.result.now at c.index_mut.ensures.value

pub returns-in_ok-insert-in-Err-clause-rising : goal.returns-in_ok-insert-in-Err-clause-rising
returns-in_ok-insert-in-Err-clause-rising c =
    let ds = c.args.entries.now.items in
    let gap = gap_passed ds c.deref.result.now c.args.id c.in-Err.at (sym c.deref.ensures.value) c.ranges.id c.in-Err.ensures in
    subst IsRising (sym c.in_ok-insert-in-Err.ensures.items) (put_in_rises ds ds c.args.id _ c.in-Err.at c.args.dictionary c.requires refl (to_z-of_z w64 c.args.id c.ranges.id) gap)

-- an allocation fails only if there was no dictionary
pub returns-in_err-insert-in-Err-clause-there : goal.returns-in_err-insert-in-Err-clause-there
returns-in_err-insert-in-Err-clause-there c =
    let ds = c.args.entries.now.items in
    let none = listed_gap ds c.args.id c.in-Err.at (gap_passed ds c.deref.result.now c.args.id c.in-Err.at (sym c.deref.ensures.value) c.ranges.id c.in-Err.ensures) in
    rw none (λ h. cc)
