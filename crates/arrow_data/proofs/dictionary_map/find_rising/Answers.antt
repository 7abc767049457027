use Rattle.std.proofs.Common.{rules, of_calls, int_lt, ◌≡◌, length, ap, sym, ◌∙◌, arith}
use lib.Dec.{ltb}
use Rattle.std.proofs.lemmas.Bool.{both_ways, lt-ltb}
use Rattle.std.proofs.lemmas.Fn.{always_returns_same}
use Rattle.std.proofs.lemmas.Int.{ints}
use Rattle.std.specs.Int.RustNames.{FitsSigned}
use mir.Syntax.{w64}
use mir.Val.{of_z}
use Rattle.arrow_data.proofs.Ids.{parted, met, missed}
use Rattle.arrow_data.proofs.dictionary_map.find_rising.Goals as goal

pub returns-then-entry-id : goal.returns-then-entry-id
returns-then-entry-id c =
    let point = c.partition_point-at.ensures.partitioned (λ e. int_lt e.0 c.args.id) (always_returns_same _ _ _ (λ a r f k. search (rules, of_calls))) (parted c.args.entries.now c.args.id c.requires) in
    let look = c.in-Some.ensures.lookup in
    let fits : FitsSigned w64 c.in-Some.entry.now.0 = search rules in
    let same : c.in-Some.entry.now.0 ≡ c.args.id = omega (arith, ints) in
    met c.args.entries.now c.args.id c.partition_point-at.result c.in-Some.entry.now point.0 look.3.0 look.1 same

pub returns-else-entry-id : goal.returns-else-entry-id
returns-else-entry-id c =
    let point = c.partition_point-at.ensures.partitioned (λ e. int_lt e.0 c.args.id) (always_returns_same _ _ _ (λ a r f k. search (rules, of_calls))) (parted c.args.entries.now c.args.id c.requires) in
    let look = c.in-Some.ensures.lookup in
    missed c.args.entries.now c.args.id c.partition_point-at.result c.requires c.partition_point-at.ensures.bound point.0 point.1 (λ e l same. c.if-entry-id.false (ap (λ z. of_z w64 z) (ap (λ x. x.0) (look.3.1 e) ∙ same)))

pub returns-in_default : goal.returns-in_default
returns-in_default c =
    let point = c.partition_point-at.ensures.partitioned (λ e. int_lt e.0 c.args.id) (always_returns_same _ _ _ (λ a r f k. search (rules, of_calls))) (parted c.args.entries.now c.args.id c.requires) in
    let past = c.in_default.ensures.lookup in
    missed c.args.entries.now c.args.id c.partition_point-at.result c.requires c.partition_point-at.ensures.bound point.0 point.1 (λ e l same. both_ways (ltb c.partition_point-at.result (length c.args.entries.now)) (sym past.0) (lt-ltb _ _ l))
