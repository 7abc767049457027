use Rattle.std.proofs.Common.{◌≤◌, ◌++◌, codes}
use Rattle.arrow_csv.proofs.Joining.{ItemsWritten}
use Rattle.arrow_csv.proofs.list_text.push_listed.Given as goal

-- texts of the items before slot k were written
abbrev pub invariant-loop-k : goal.invariant-loop-k
invariant-loop-k l =
    (l.start ≤ l.k) × (l.k ≤ l.end) × ItemsWritten l.items.data_type l.items.resolved l.start l.k (l.fn.out.items ++ codes "[") l.out.items
