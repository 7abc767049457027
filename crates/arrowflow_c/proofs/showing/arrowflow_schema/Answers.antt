use Rattle.std.proofs.Common.{[], Some, Ok, Err, subst, refl, inl}
use Rattle.arrowflow_text.specs.SchemaCall.{AnswersInput}
use Rattle.arrowflow_calls.specs.Terms.{numbers}
use Rattle.arrowflow_c.proofs.showing.arrowflow_schema.Goals as goal

-- the text was given
pub returns-in-Ok : goal.returns-in-Ok
returns-in-Ok c =
    let within = c.in-Some.ensures in
    let left = Some c.schema_text.new.input.now in
    let answers = subst (λ l. AnswersInput l (Some c.args.bytes.now) left c.schema_text.result) within.1 c.schema_text.ensures.answers in
    let gave = subst (λ r. AnswersInput (numbers c.args.limits) (Some c.args.bytes.now) left r) c.in-Ok.is answers in record {
      stated =
          inl (
            within.0,
            record {
              answer = Ok tt;
              text = c.as_bytes.result.now;
              gave = (left, (c.in-Ok.text, gave, c.as_bytes.ensures.value));
              is_reported = c.given.ensures.stated;
              room = c.given.ensures.filled;
            },
          );
    }

-- there is no text
pub returns-in-Err : goal.returns-in-Err
returns-in-Err c =
    let within = c.in-Some.ensures in
    let left = Some c.schema_text.new.input.now in
    let answers = subst (λ l. AnswersInput l (Some c.args.bytes.now) left c.schema_text.result) within.1 c.schema_text.ensures.answers in
    let gave = subst (λ r. AnswersInput (numbers c.args.limits) (Some c.args.bytes.now) left r) c.in-Err.is answers in record {
      stated =
          inl (
            within.0,
            record {
              answer = Err c.in-Err.fault;
              text = [];
              gave = (left, gave, refl);
              is_reported = c.given-in-Err.ensures.stated;
              room = c.given-in-Err.ensures.filled;
            },
          );
    }
