use Rattle.arrow_meta_tree.specs.Views.{plain_all}
use Rattle.arrow_meta_schema.proofs.FirstFields.{smaller_at}
use Rattle.arrow_meta_schema.proofs.field_tables.first_field.Goals as goal

pub returns-in-Some-clause-smaller : goal.returns-in-Some-clause-smaller
returns-in-Some-clause-smaller c =
    smaller_at c.args.tables.now c.loop-i.i c.index-tables-i.result c.in-Some.ensures.parts.0 (plain_all c.in-Some.parts.now) c.loop-i-test.true c.index-tables-i.is c.in-Some.ensures.parts.1
