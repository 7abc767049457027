use Rattle.std.proofs.Common.{ap, sym}
use Rattle.arrow_types.specs.Schema.{has_encoding}
use Rattle.arrow_meta_schema.proofs.TableFields.{fields_past}
use Rattle.arrow_meta_schema.proofs.nesting.+encodings.Goals as goal

pub has_encoding_below-returns-in-None : goal.has_encoding_below-returns-in-None
has_encoding_below-returns-in-None t c = record {
  encoded = ap has_encoding (sym (fields_past c.args.parts.now 5 c.in-None.ensures.lookup.3));
}
