use Rattle.std.proofs.Common.{sym, ◌∙◌}
use Rattle.std.proofs.lemmas.Bool.{false≢true}
use Rattle.arrow_meta_tree.specs.Views.{plain_all}
use Rattle.arrow_meta_schema.proofs.OwnParts.{same_heads}
use Rattle.arrow_meta_schema.proofs.field_eq.same_head.Goals as goal

pub returns-then-same_label : goal.returns-then-same_label
returns-then-same_label c =
    let heads = same_heads (plain_all c.args.one.now) (plain_all c.args.other.now) in
    record {
      same = (
        λ h. heads.0 (c.same_label.ensures.same.0 c.if-same_label.true, c.same_tag.ensures.same.0 h),
        λ same. c.same_tag.ensures.same.1 ((heads.1 same).1),
      );
    }

-- tables with different names, nullability or encodings describe different fields
pub returns-else-same_label : goal.returns-else-same_label
returns-else-same_label c =
    let heads = same_heads (plain_all c.args.one.now) (plain_all c.args.other.now) in
    record {
      same = (
        λ h. absurd (false≢true (sym c.if-same_label.false ∙ h)),
        λ same. c.same_label.ensures.same.1 ((heads.1 same).0),
      );
    }
