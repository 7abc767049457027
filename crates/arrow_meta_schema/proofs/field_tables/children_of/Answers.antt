use Rattle.std.proofs.Common.{sym, ap, ◌∙◌}
use Rattle.arrow_meta_schema.specs.SchemaMeaning.{fields_in}
use Rattle.arrow_meta_tree.specs.Views.{plain_all}
use Rattle.arrow_meta_schema.proofs.FirstFields.{children_fields, children_size}
use Rattle.arrow_meta_schema.proofs.Misfits.{size_positive}
use Rattle.arrow_meta_schema.proofs.TableFields.{fields_at_nth}
use Rattle.arrow_meta_schema.proofs.field_tables.children_of.Goals as goal

pub returns-in-Some-clause-fields : goal.returns-in-Some-clause-fields
returns-in-Some-clause-fields c = children_fields 5 (plain_all c.args.parts.now) _ (plain_all c.tables_of.result.now) c.in-Some.ensures.found c.tables_of.ensures.fields

pub returns-in-Some-clause-smaller : goal.returns-in-Some-clause-smaller
returns-in-Some-clause-smaller c = children_size 5 (plain_all c.args.parts.now) _ (plain_all c.tables_of.result.now) c.in-Some.ensures.found c.tables_of.ensures.smaller

-- without a vector there are no children
pub returns-in-None-clause-fields : goal.returns-in-None-clause-fields
returns-in-None-clause-fields c = sym (fields_at_nth 5 (plain_all c.args.parts.now) ∙ ap fields_in c.in-None.ensures.found)

pub returns-in-None-clause-smaller : goal.returns-in-None-clause-smaller
returns-in-None-clause-smaller c = size_positive (plain_all c.args.parts.now)
