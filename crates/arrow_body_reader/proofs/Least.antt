-- The shortest of some columns, field by field.
use Rattle.std.proofs.Common.{◌≡◌, ◌≤◌, ◌↔◌, ℕ, List, min, sym, subst, arith}
use Rattle.std.specs.List.{AllByRecursion}
use Rattle.arrow_types.specs.Field.{FieldTree, FieldHeader, more}
use Rattle.arrow_types.specs.declared.node.FieldNode.{FieldNode}
use Rattle.arrow_body_reader.specs.Sound.{lengths_of, slots_at}
use Rattle.arrow_body_reader.specs.Taken.{below, taken_nodes}
use Rattle.std.proofs.Common.{drop}
use Rattle.arrow_body_reader.proofs.Taking.{node_after}

-- after the first field's length, those of the other fields are still to come
pub least_next : (h : FieldHeader) (c rest : FieldTree) (ns ns' : List FieldNode) (n so_far own new : ℕ) (All : Type 0) → ns' ≡ drop (taken_nodes (below h.encoding c)) (drop 1 ns) → own ≡ slots_at ns → new ≡ min so_far own
    → ((n ≤ so_far) × AllByRecursion (λ k. n ≤ k) (lengths_of (more h c rest) ns)) ↔ All → ((n ≤ new) × AllByRecursion (λ k. n ≤ k) (lengths_of rest ns')) ↔ All
least_next h c rest ns ns' n so_far own new All is long less inv =
    let next = node_after h c ns ns' is in (
      λ x. inv.0 (omega (arith, less, x.0), (omega (arith, less, long, x.0), subst (λ y. AllByRecursion (λ k. n ≤ k) (lengths_of rest y)) next x.1)),
      λ w.
          let both = inv.1 w in
          (omega (arith, less, long, both.0, both.1.0), subst (λ y. AllByRecursion (λ k. n ≤ k) (lengths_of rest y)) (sym next) both.1.1),
    )
