use Rattle.std.proofs.Common.{◌≡◌, Ok, Err, ap, ◌∙◌, subst}
use Rattle.std.proofs.lemmas.Result.{err_from_is_err_and}
use Rattle.arrow_meta_tree.specs.declared.codes.HeaderKind.{HeaderKind}
use Rattle.arrow_meta_reader.specs.declared.message.MetadataVersion.{MetadataVersion}
use Rattle.arrow_meta_reader.specs.Judges.{Clears, Judges}
use Rattle.arrow_meta_tree.specs.Parts.{parts}
use Rattle.arrow_meta_reader.specs.Built.{BuildsMessage}
use Rattle.arrow_meta_tree.specs.Views.{plain_all}
use Rattle.arrow_meta_tree.specs.Within.{IsShallow}
use Rattle.arrow_meta_reader.proofs.Least.{refused, built, length_fits}
use Rattle.arrow_meta_reader.proofs.judging.judge.Goals as goal

pub returns-in_err-version : goal.returns-in_err-version
returns-in_err-version c =
    let here : plain_all c.into_parts-parts.result.items ≡ parts c.args.tree = c.into_parts-parts.ensures.parts ∙ ap parts c.into_root.ensures.root in
    let fault = c.in_err-version.field-0.0 in
    let failed = err_from_is_err_and c.from_residual.result c.from_residual.ensures.1 in
    let found : Clears (Err fault) c.max_body.result (parts c.args.tree) = subst (λ xs. Clears (Err fault) c.max_body.result xs) (ap plain_all c.deref.ensures.value ∙ here) c.in_err-version.ensures.least in
    let judged : Judges (Err fault) c.args.limits.now.max_body c.args.tree = rw (← c.max_body.ensures.value) (refused fault c.max_body.result c.args.tree found) in
    rw (failed.1, failed.2) (record { judged = judged; length = length_fits (Err fault) c.args.limits.now.max_body c.args.tree judged })

pub returns : goal.returns
returns c =
    let here : plain_all c.into_parts-parts.result.items ≡ parts c.args.tree = c.into_parts-parts.ensures.parts ∙ ap parts c.into_root.ensures.root in
    let shallow = subst IsShallow c.into_root.ensures.root c.into_root.ensures.shallow in
    let found : MetadataVersion × HeaderKind = (c.in_ok-version.version, c.in_ok-version.kind) in
    let clear : Clears (Ok found) c.max_body.result (parts c.args.tree) = subst (λ xs. Clears (Ok found) c.max_body.result xs) (ap plain_all c.deref.ensures.value ∙ here) c.in_ok-version.ensures.least in
    let made = subst (λ xs. BuildsMessage c.message.result c.in_ok-version.version c.in_ok-version.kind xs) here c.message.ensures.built in
    let judged : Judges c.message.result c.args.limits.now.max_body c.args.tree = rw (← c.max_body.ensures.value) (built c.message.result c.in_ok-version.version c.in_ok-version.kind c.max_body.result c.args.tree shallow clear.0 clear.1 clear.2 made) in
    record { judged = judged; length = length_fits c.message.result c.args.limits.now.max_body c.args.tree judged }
