use Rattle.std.proofs.Common.{◌≡◌, ◌↔◌, drop}
use Rattle.std.specs.List.{AllByRecursion}
use Rattle.arrow_types.specs.View.{fields_view}
use Rattle.arrow_body_reader.specs.Sound.{lengths_of}
use Rattle.arrow_body_reader.proofs.counts.check_row_count.Given as goal

-- all have that many slots exactly when the remaining ones do
abbrev pub invariant-loop-field : goal.invariant-loop-field
invariant-loop-field l = AllByRecursion (λ n. n ≡ l.rows) (lengths_of (fields_view (drop l.field-index l.fields)) l.rest) ↔ AllByRecursion (λ n. n ≡ l.rows) (lengths_of (fields_view l.fields) l.nodes)
