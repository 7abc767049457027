use Rattle.std.proofs.Common.{subst}
use Rattle.arrow_types.specs.Field.{TypeShape}
use Rattle.arrow_layout.specs.Form.{HasFieldsOf, form_of}
use Rattle.arrow_body_laws.specs.Formed.{AreFormed}
use Rattle.arrow_body_writer.proofs.Measures.{column_raws}
use Rattle.arrow_body_writer.proofs.Sources.{all_from_one}
use Rattle.arrow_body_writer.specs.Source.{rest_of}
use Rattle.arrow_body_writer.proofs.forms.nodes_in_rest.Goals as goal

-- the type has the child fields that it needs
pub returns-clause-raws : goal.returns-clause-raws
returns-clause-raws c = λ from.
    let formed = subst (λ (s : TypeShape). HasFieldsOf (form_of s.tag) s.children × AreFormed s.children) c.data_type.ensures.same c.count_column.ensures.formed in
    column_raws (rest_of c.args.dictionary.now from) (all_from_one _ c.args.dictionary.now.values from c.data_type.ensures.known.fits) formed
