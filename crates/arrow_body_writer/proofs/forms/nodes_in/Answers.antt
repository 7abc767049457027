use Rattle.std.proofs.Common.{◌≡◌, ◌∙◌, Option, None, Some, refl, subst}
use Rattle.std.specs.Option.{option_copied}
use Rattle.std.specs.Prelude.{option_map}
use denote.Bor.{Bor}
use Rattle.arrow_types.specs.Field.{TypeShape}
use Rattle.arrow_types.specs.declared.field.Encoding.{Encoding}
use Rattle.arrow_layout.specs.Form.{HasFieldsOf, form_of}
use Rattle.arrow_body_reader.specs.Taken.{IfFlattened}
use Rattle.arrow_body_laws.specs.Formed.{AreFormed}
use Rattle.arrow_body_writer.proofs.Measures.{column_raws}
use Rattle.arrow_body_writer.proofs.forms.nodes_in.Goals as goal

copied : (e : Option (Bor Encoding)) → option_copied e ≡ option_map (λ (x : Bor Encoding). x.now) e
copied None = refl
copied (Some e) = refl

-- the type has the child fields that it needs
pub returns-clause-raws : goal.returns-clause-raws
returns-clause-raws c =
    let a = c.args.array.now in
    let same = c.copied.ensures ∙ copied c.encoding.result ∙ c.encoding.ensures in
    let formed = subst (λ (s : TypeShape). IfFlattened c.copied.result (HasFieldsOf (form_of s.tag) s.children × AreFormed s.children)) c.data_type.ensures c.count_column.ensures.formed in
    column_raws a c.len-slots.ensures.known.fits (subst (λ e. IfFlattened e (HasFieldsOf (form_of a.data_type.tag) a.data_type.children × AreFormed a.data_type.children)) same formed)
