-- The counts taken while the tree of some bytes is read are those of any tree of the bytes: they have only one.
use Rattle.std.proofs.Common.{List, ℕ, Result, Ok, Err, inr, sym, subst}
use Rattle.std.specs.Prelude.{IfErr, IfOk}
use Rattle.arrow_types.specs.Limits.{LimitNumbers}
use Rattle.arrow_meta_tree.specs.declared.fault.MetaFault.{MetaFault}
use Rattle.arrow_meta_reader.specs.declared.message.Message.{Message}
use Rattle.arrow_meta_tree.specs.declared.decode_cost.DecodeCost.{DecodeCost}
use Rattle.arrow_meta_reader.specs.Judges.{CountsFailed, CountsTree}
use Rattle.arrow_meta_tree.specs.Costs.{IsTreeOf, Counts}
use Rattle.arrow_meta_reader.specs.Straight.{IsBare}
use Rattle.arrow_meta_tree.specs.Trees.{Tree}
use Rattle.arrow_meta_reader.proofs.OneAnswer.{one_tree}

-- the counts of one tree are those of every other
counts_any : (limits : LimitNumbers) (bytes : List ℕ) (x : Tree) (work : DecodeCost) → IsTreeOf bytes limits x → Counts work x →
    CountsTree limits bytes work
counts_any limits bytes x work is counts y also = subst (Counts work) (one_tree bytes limits x y is also) counts

-- a tree that is bare has nothing to count
pub counts_nothing : (limits : LimitNumbers) (bytes : List ℕ) (x : Tree) → IsTreeOf bytes limits x → IsBare x →
    CountsTree limits bytes (record { fields = 0; pairs = 0; bytes = 0 })
counts_nothing limits bytes x is bare =
    counts_any limits bytes x (record { fields = 0; pairs = 0; bytes = 0 }) is
    (record { fields = sym bare.visits_none; pairs = sym bare.entries_none; bytes = sym bare.text_none })

-- with a message as the result, the counts are those of the tree
pub counted : (r : Result Message MetaFault) (limits : LimitNumbers) (bytes : List ℕ) (x : Tree) (work : DecodeCost) →
    IsTreeOf bytes limits x → Counts work x → IfOk r (λ _. CountsTree limits bytes work)
counted (Ok m) limits bytes x work is counts = counts_any limits bytes x work is counts
counted (Err e) limits bytes x work is counts = tt

-- with a fault of the tree as the result, they are those of the tree too
pub counted_failed : (r : Result Message MetaFault) (limits : LimitNumbers) (bytes : List ℕ) (x : Tree) (work : DecodeCost) →
    IsTreeOf bytes limits x → Counts work x → IfErr r (λ e. CountsFailed limits bytes e work)
counted_failed (Ok m) limits bytes x work is counts = tt
counted_failed (Err e) limits bytes x work is counts = inr (x, is, counts)
