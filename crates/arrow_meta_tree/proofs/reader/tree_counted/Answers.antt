use Rattle.std.proofs.Common.{◌≡◌, false, ℕ, ◌≤◌, ◌-◌, List, subst, arith}
use Rattle.std.proofs.lemmas.Result.{err_from_is_err_and}
use Rattle.arrow_types.specs.declared.type_set.TypeSet.{TypeSet}
use Rattle.arrow_meta_tree.specs.Reads.{Ends, NoneFits, Faulty, room}
use Rattle.arrow_meta_tree.specs.Lies.{Placed, LiesAtRoot}
use Rattle.arrow_meta_tree.specs.Trees.{Tree}
use Rattle.arrow_meta_tree.specs.Views.{plain}
use Rattle.arrow_meta_tree.specs.Within.{levels, visits, entries, text_bytes, Room, Spends, IsWithin}
use Rattle.arrow_meta_tree.specs.Grows.{Grows, root, whole}
use Rattle.arrow_meta_tree.proofs.Roots.{root_lies, root_placed}
use Rattle.arrow_meta_tree.proofs.Spots.{faulty_so}
use Rattle.arrow_meta_tree.proofs.reader.tree_counted.Goals as goal

-- if no tree fits, none is within the limits
none_within : (types : TypeSet) (bytes : List ℕ) (max_metadata : ℕ) → NoneFits bytes (root types) 32 (whole max_metadata) → (x : Tree) → LiesAtRoot types x bytes → ¬ (IsWithin max_metadata x)
none_within types bytes max_metadata never x h w =
    never x (root_placed types bytes x h) (record {
      levels_fit = w.shallow.levels_within;
      visits_fit = w.shallow.visits_within;
      entries_fit = w.shallow.entries_within;
      text_fits = w.text_within;
    })

-- a tree that was read at the root within the whole room lies there, and is within the limits
lies_within : (types : TypeSet) (bytes : List ℕ) (max_metadata : ℕ) (x : Tree) (new : Room) → Placed bytes (root types) x × (levels x ≤ 32) × Spends (whole max_metadata) new (visits x) (entries x) (text_bytes x) → LiesAtRoot types x bytes × IsWithin max_metadata x
lies_within types bytes max_metadata x new h = (
  root_lies types bytes x h.0,
  record {
    shallow = record {
      levels_within = h.1;
      visits_within = omega (arith, h.2.visits_paid);
      entries_within = omega (arith, h.2.entries_paid);
    };
    text_within = omega (arith, h.2.text_paid);
  },
)

-- the room of a reader that has read nothing
abbrev unspent : ℕ → Room
unspent max_metadata = record { visits = 65536; entries = 65536; text = max_metadata - 0 }

-- the whole room
all_left : (max_metadata : ℕ) → unspent max_metadata ≡ whole max_metadata
all_left max_metadata =
    let same : max_metadata - 0 ≡ max_metadata = omega arith in
    λ i. record { visits = 65536; entries = 65536; text = same i }

pub returns-clause-found : goal.returns-clause-found
returns-clause-found c =
    let x = plain c.in_ok-found.field-0 in
    let n = c.max_metadata.result in
    let P : Room → Type 0 = λ left. Placed c.args.bytes.now (root c.types.result) x × (levels x ≤ 32) × Spends left (room c.root-found.new.self) (visits x) (entries x) (text_bytes x) in
    rw (← c.max_metadata.ensures.value, ← c.types.ensures)
    (lies_within c.types.result c.args.bytes.now n x (room c.root-found.new.self) (subst P (all_left n) c.in_ok-found.ensures.read))

pub returns-in_err-found-clause-none : goal.returns-in_err-found-clause-none
returns-in_err-found-clause-none c =
    let n = c.max_metadata.result in
    let P : Room → Type 0 = λ left. Faulty c.in_err-found.field-0.0 (NoneFits c.args.bytes.now (root c.types.result) 32 left) (Grows c.args.bytes.now (root c.types.result) 32 left) in
    let failed = err_from_is_err_and c.from_residual.result c.from_residual.ensures.1 in
    rw (← c.max_metadata.ensures.value, ← c.types.ensures, failed.1, failed.2)
    (faulty_so c.in_err-found.field-0.0 _ _ _ _ (none_within c.types.result c.args.bytes.now n) (λ g. g) (subst P (all_left n) c.in_err-found.ensures.read))

-- the counts are the difference between the whole room and the room that is left
pub returns-in_err-found-clause-ends : goal.returns-in_err-found-clause-ends
returns-in_err-found-clause-ends c =
    let n = c.max_metadata.result in
    let counter = c.root-found.new.self.counter in
    let left = room c.root-found.new.self in
    let P : Room → Type 0 = λ all. Ends c.args.bytes.now false c.in_err-found.field-0.0 (root c.types.result) 32 all left in
    let paid : Spends (whole n) left counter.work.fields counter.work.pairs counter.work.bytes = record {
      visits_paid = omega (arith, counter.fields_within);
      entries_paid = omega (arith, counter.pairs_within);
      text_paid = omega (arith, counter.bytes_within, c.root-found.ensures.max);
    } in
    let failed = err_from_is_err_and c.from_residual.result c.from_residual.ensures.1 in
    rw (← c.max_metadata.ensures.value, ← c.types.ensures, failed.1, failed.2) (left, subst P (all_left n) c.in_err-found.ensures.ends, paid)
