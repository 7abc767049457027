use Rattle.std.proofs.Common.{ap, ◌∙◌}
use Rattle.arrow_types.proofs.Pairs.{differ_below}
use Rattle.arrow_types.specs.Schema.{dictionary_fields, types_differ}
use Rattle.arrow_meta_schema.specs.SchemaMeaning.{fields_from}
use Rattle.arrow_meta_tree.specs.Views.{plain_all}
use Rattle.arrow_meta_schema.proofs.dictionary_types.types_differ.Goals as goal

-- the pairs are those of the list of all dictionary-encoded fields
pub returns-in-Err : goal.returns-in-Err
returns-in-Err c = record {
  differ = c.some_differ.ensures.differ ∙ differ_below (fields_from (plain_all c.tables_of-tables.result.now))
      ∙ ap (λ fields. types_differ (dictionary_fields fields)) c.tables_of-tables.ensures.fields;
}
