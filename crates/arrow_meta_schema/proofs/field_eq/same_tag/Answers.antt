use Rattle.std.proofs.Common.{sym, ◌∙◌}
use Rattle.std.proofs.lemmas.Bool.{false≢true}
use Rattle.arrow_meta_tree.specs.Views.{plain_all}
use Rattle.arrow_meta_schema.proofs.OwnParts.{same_tags, same_tags_by}
use Rattle.arrow_meta_schema.proofs.field_eq.same_tag.Goals as goal

pub returns-then-same_code : goal.returns-then-same_code
returns-then-same_code c = record {
  same = same_tags_by (plain_all c.args.one.now) (plain_all c.args.other.now) _ _ _ _ _ c.code_in-code.ensures.code c.code_in.ensures.code
      c.table_of.ensures.table c.table_of-then-same_code.ensures.table (c.same_code.ensures.same.0 c.if-same_code.true) c.same_part.ensures.same;
}

-- types with different codes are not equal
pub returns-else-same_code : goal.returns-else-same_code
returns-else-same_code c = record {
  same = (
    λ h. absurd (false≢true (sym c.if-same_code.false ∙ h)),
    λ same. c.same_code.ensures.same.1 (c.code_in-code.ensures.code ∙ ((same_tags (plain_all c.args.one.now) (plain_all c.args.other.now)).1 same).0 ∙ sym c.code_in.ensures.code),
  );
}
