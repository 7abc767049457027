use Rattle.std.proofs.Common.{◌≡◌, ℕ, List, [], Option, None, Some, Err, refl, ap, sym, subst, ◌∙◌, map}
use Rattle.std.proofs.lemmas.Result.{err_from_is_err_and}
use Rattle.std.specs.Option.{IsSome, MatchOption}
use Rattle.clap.specs.Words.{App, Row, app_of, fault_of, found_of, is_simple, is_simple_and_free, rows_of, subcommand_of, subcommand_rows_of}
use Rattle.arrowflow_line.specs.declared.fault.ArgFault.{ArgFault}
use Rattle.arrowflow_line.specs.declared.fault.ArgFault.TheVariants.{Line, Misused, Memory}
use Rattle.arrowflow_line.specs.CommandLine.{AnswersLine, IsAskedFor, IsFaultIn, IsCommand, IsPlan, IsProgram, program_app, reading_app}
use Rattle.arrowflow_line.proofs.Asked.{met_as, name_met}
use Rattle.arrowflow_line.proofs.Named.{command_found, line}
use Rattle.arrowflow_line.proofs.command_line.plan.Goals as goal

-- the program's command line, written out
abbrev line_of : (app : App) → IsProgram app → App
line_of app p =
    line p.reads.has_schema.types p.reads.has_check.types p.reads.has_show.types p.reads.has_explain.types p.copies.updates p.copies.aligns p.copies.types p.drills.updates p.drills.aligns p.drills.types

written : (app : App) (p : IsProgram app) → app ≡ line_of app p
written app p =
    let reading = p.reads.is ∙ (λ i. reading_app (p.reads.has_schema.is i) (p.reads.has_check.is i) (p.reads.has_show.is i) (p.reads.has_explain.is i)) in
    p.is ∙ (λ i. program_app (reading i) (p.copies.is i) (p.drills.is i))

-- a value that is absent only if something does not hold is there
is_there : {A : Type 0} (o : Option A) (X : Type 0) (P : A → Type 0) → MatchOption o (X → ⊥) P → X → IsSome o
is_there (Some a) X P h holds = refl
is_there None X P h holds = absurd (h holds)

pub returns-in_err-matches : goal.returns-in_err-matches
returns-in_err-matches c =
    let failed = err_from_is_err_and c.from_residual-in_err-matches.result c.from_residual-in_err-matches.ensures.1 in
    let program : IsProgram (app_of c.in_ok-command.field-0) = c.in_ok-command.ensures.app in
    let app = written (app_of c.in_ok-command.field-0) program in
    rw (failed.1, failed.2) (app_of c.in_ok-command.field-0, program, c.in_err-matches.ensures.kinds (ap is_simple_and_free app))

-- the command that was found is one of the program's
pub unwrap-requires-2 : goal.unwrap-requires-2
unwrap-requires-2 c =
    let m = c.in_ok-matches.matches in
    let name = c.unwrap.result.0.now in
    let rows = rows_of (found_of c.unwrap.result.1.now) in
    let words = map (λ w. w.now) c.args.words.now in
    let p : IsProgram (app_of c.in_ok-command.field-0) = c.in_ok-command.ensures.app in
    let app = written (app_of c.in_ok-command.field-0) p in
    let parsed = (c.in_ok-matches.ensures.matches (ap is_simple app)).1 in
    let command = rw c.unwrap.ensures at c.subcommand.ensures in
    let met = met_as (subcommand_rows_of m) name rows (command.name ∙ name_met m) command.rows in
    let sound = sym (ap (λ a. fault_of a words) app) ∙ c.in_ok-matches.ensures.kinds (ap is_simple_and_free app) in
    let found = sym (ap (λ a. subcommand_of a words) app) ∙ sym parsed ∙ met in
    is_there c.in_ok-plan_of.field-0 (IsCommand name) (λ p. IsPlan name rows p) c.in_ok-plan_of.ensures.plan
    (command_found p.reads.has_schema.types p.reads.has_check.types p.reads.has_show.types p.reads.has_explain.types p.copies.updates p.copies.aligns p.copies.types p.drills.updates p.drills.aligns p.drills.types words name rows sound found)

pub returns : goal.returns
returns c =
    let m = c.in_ok-matches.matches in
    let name = c.unwrap.result.0.now in
    let rows = rows_of (found_of c.unwrap.result.1.now) in
    let words = map (λ w. w.now) c.args.words.now in
    let program : IsProgram (app_of c.in_ok-command.field-0) = c.in_ok-command.ensures.app in
    let app = written (app_of c.in_ok-command.field-0) program in
    let parsed = (c.in_ok-matches.ensures.matches (ap is_simple app)).1 in
    let command = rw c.unwrap.ensures at c.subcommand.ensures in
    let met = met_as (subcommand_rows_of m) name rows (command.name ∙ name_met m) command.rows in
    let asked : IsAskedFor (app_of c.in_ok-command.field-0) words c.unwrap-2.result = record {
      name = name;
      rows = rows;
      found = sym parsed ∙ met;
      is = subst (λ o. MatchOption o (IsCommand name → ⊥) (λ p. IsPlan name rows p)) c.unwrap-2.ensures c.in_ok-plan_of.ensures.plan;
    } in
    (app_of c.in_ok-command.field-0, program, asked, c.in_ok-matches.ensures.kinds (ap is_simple_and_free app))

-- a fault of the command that is found is a fault of the line
faulty : (app : App) (words : List (List ℕ)) (name : List ℕ) (rows : List Row) (fault : ArgFault) → IsProgram app → subcommand_of app words ≡ Some (name, rows) → fault_of app words ≡ []
    → IsFaultIn name rows fault → AnswersLine words (Err fault)
faulty app words name rows (Line error) program found sound is = absurd is
faulty app words name rows (Misused misuse) program found sound is = (app, program, record { name = name; rows = rows; found = found; is = is }, sound)
faulty app words name rows Memory program found sound is = tt

pub returns-in_err-plan_of : goal.returns-in_err-plan_of
returns-in_err-plan_of c =
    let m = c.in_ok-matches.matches in
    let name = c.unwrap.result.0.now in
    let rows = rows_of (found_of c.unwrap.result.1.now) in
    let words = map (λ w. w.now) c.args.words.now in
    let program : IsProgram (app_of c.in_ok-command.field-0) = c.in_ok-command.ensures.app in
    let app = written (app_of c.in_ok-command.field-0) program in
    let parsed = (c.in_ok-matches.ensures.matches (ap is_simple app)).1 in
    let command = rw c.unwrap.ensures at c.subcommand.ensures in
    let met = met_as (subcommand_rows_of m) name rows (command.name ∙ name_met m) command.rows in
    let failed = err_from_is_err_and c.from_residual-in_err-plan_of.result c.from_residual-in_err-plan_of.ensures.1 in
    rw (failed.1, failed.2)
    (faulty (app_of c.in_ok-command.field-0) words name rows c.in_err-plan_of.field-0.0 program (sym parsed ∙ met) (c.in_ok-matches.ensures.kinds (ap is_simple_and_free app)) c.in_err-plan_of.ensures.fault)
