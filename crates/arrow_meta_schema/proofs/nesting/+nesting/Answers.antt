use Rattle.std.proofs.Common.{ap, sym}
use Rattle.arrow_types.specs.Schema.{is_nested}
use Rattle.arrow_meta_schema.proofs.TableFields.{fields_past}
use Rattle.arrow_meta_schema.proofs.nesting.+nesting.Goals as goal

pub is_nested_below-returns-in-None : goal.is_nested_below-returns-in-None
is_nested_below-returns-in-None t c = record {
  nested = ap is_nested (sym (fields_past c.args.parts.now 5 c.in-None.ensures.lookup.3));
}
