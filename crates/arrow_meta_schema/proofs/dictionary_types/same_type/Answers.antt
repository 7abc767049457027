use Rattle.std.proofs.Common.{sym, ap, ◌∙◌}
use Rattle.std.proofs.lemmas.Bool.{false≢true}
use Rattle.arrow_types.specs.Equality.{is_equal_by}
use Rattle.arrow_types.specs.Field.{TypeShape}
use Rattle.arrow_types.specs.Stored.{type_code}
use Rattle.arrow_meta_tree.specs.Views.{plain_all}
use Rattle.arrow_meta_schema.proofs.OwnParts.{same_types}
use Rattle.arrow_meta_schema.proofs.dictionary_types.same_type.Goals as goal

-- the test is true exactly if the types are equal
pub returns-then-same_tag : goal.returns-then-same_tag
returns-then-same_tag c = record {
  same = is_equal_by type_code _ _ _
      (same_types (plain_all c.args.one.now) (plain_all c.args.other.now) (plain_all c.children_of.result.now) (plain_all c.children_of-then-same_tag.result.now) _
      c.children_of.ensures.fields c.children_of-then-same_tag.ensures.fields (c.same_tag.ensures.same.0 c.if-same_tag.true) c.same_fields.ensures.same);
}

-- types with different tags are not equal
pub returns-else-same_tag : goal.returns-else-same_tag
returns-else-same_tag c = record {
  same = is_equal_by type_code _ _ _
      (λ h. absurd (false≢true (sym c.if-same_tag.false ∙ h)), λ same. c.same_tag.ensures.same.1 (ap (λ (t : TypeShape). t.tag) same));
}
