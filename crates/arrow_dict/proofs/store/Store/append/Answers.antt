use Rattle.std.proofs.Common.{refl, arith, sym, ◌∙◌}
use Rattle.arrow_dict.proofs.Places.{at_passed, found, gap_passed, listed_gap}
use Rattle.arrow_dict.proofs.Appending.{too_long, refused, appended, still_rising}
use Rattle.arrow_dict.proofs.store.Store.append.Goals as goal
use Rattle.arrow_dict.proofs.store.Store.append.Goals.{in-Ok-append, in-Err}

-- there is no dictionary of the id
pub returns-in_default : goal.returns-in_default
returns-in_default c =
    (listed_gap c.args.self.now c.args.id c.in_default.field-0 (gap_passed c.args.self.now c.deref.result.now c.args.id c.in_default.field-0 (sym (c.deref.ensures.value ∙ c.self.view_is)) c.ranges.id c.in_default.ensures), refl)

-- the values would be too many
pub returns-then-saturating_add-gt-MAX_VALUES : goal.returns-then-saturating_add-gt-MAX_VALUES
returns-then-saturating_add-gt-MAX_VALUES c =
    let ds = c.self.inside.entries.items in
    let at = at_passed ds c.deref.result.now c.args.id c.in-Ok.at (sym c.deref.ensures.value) c.ranges.id c.in-Ok.ensures in
    too_long ds c.args.self.now c.args.id c.in-Ok.at c.index_mut.result.now c.args.values c.self.invariant at c.index_mut.ensures.value c.self.view_is (omega arith)

-- the dictionary that was read is the listed one
pub append-requires-clause-typed : goal.append-requires-clause-typed
append-requires-clause-typed c =
    let ds = c.self.inside.entries.items in
    let at = at_passed ds c.deref.result.now c.args.id c.in-Ok.at (sym c.deref.ensures.value) c.ranges.id c.in-Ok.ensures in
    c.requires.typed c.index_mut.result.now.1 (rw (← c.self.view_is) (found ds c.args.id c.in-Ok.at c.index_mut.result.now c.self.invariant at c.index_mut.ensures.value))

pub append-requires-clause-plain : goal.append-requires-clause-plain
append-requires-clause-plain c =
    let ds = c.self.inside.entries.items in
    let at = at_passed ds c.deref.result.now c.args.id c.in-Ok.at (sym c.deref.ensures.value) c.ranges.id c.in-Ok.ensures in
    c.requires.plain c.index_mut.result.now.1 (rw (← c.self.view_is) (found ds c.args.id c.in-Ok.at c.index_mut.result.now c.self.invariant at c.index_mut.ensures.value))

-- the ids are unchanged
pub invariant_of-self-2 : goal.invariant_of-self-2
invariant_of-self-2 c =
    let ds = c.self.inside.entries.items in
    let at = at_passed ds c.deref.result.now c.args.id c.in-Ok.at (sym c.deref.ensures.value) c.ranges.id c.in-Ok.ensures in
    still_rising ds c.args.self.now c.args.id c.in-Ok.at c.index_mut.result.now c.args.values c.self.invariant at c.index_mut.ensures.value c.self.view_is c.append.new.self

-- the values are appended, or an allocation failed
pub returns : goal.returns
returns c =
    let ds = c.self.inside.entries.items in
    let at = at_passed ds c.deref.result.now c.args.id c.in-Ok.at (sym c.deref.ensures.value) c.ranges.id c.in-Ok.ensures in
    let here = appended ds c.args.self.now c.args.id c.in-Ok.at c.index_mut.result.now c.args.values c.self.invariant at c.index_mut.ensures.value c.self.view_is c.append.new.self (omega arith) in
    let kept = refused ds c.args.self.now c.args.id c.in-Ok.at c.index_mut.result.now c.args.values c.self.invariant at c.index_mut.ensures.value c.self.view_is c.append.new.self (omega arith) in
    elim c.match-append.branch [
      | in-Ok-append w ↦ rw w.result-is (here w.in-Ok-append.ensures.ok)
      | in-Err w ↦ rw w.result-is (kept w.in-Err.ensures.err)
    ]
