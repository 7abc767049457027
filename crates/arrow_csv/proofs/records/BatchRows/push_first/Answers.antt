use Rattle.std.proofs.Common.{◌≤◌, sym, ◌∙◌, subst}
use Rattle.arrow_csv.specs.Named.{HaveSlots, choice_by}
use Rattle.arrow_csv.specs.Records.{NumberedBatch}
use Rattle.arrow_csv.proofs.Naming.{chosen_slots}
use Rattle.arrow_csv.proofs.records.BatchRows.push_first.Goals as goal

-- each of the columns has a slot for each row
pub push_records-requires-clause-inside : goal.push_records-requires-clause-inside
push_records-requires-clause-inside c =
    let own = c.self.inside in
    let choice = choice_by own.layout.columns in
    let within = subst (λ (r : NumberedBatch). c.args.rows.end ≤ r.batch.rows) (sym c.self.view_is) c.requires.inside in
    subst (HaveSlots c.args.rows.end) (sym (c.deref.ensures.value ∙ c.self.invariant)) (chosen_slots c.args.rows.end choice own.batch.now within c.schema.ensures.known.long)
