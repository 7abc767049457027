use Rattle.std.proofs.Common.{◌≡◌, true, ap, ◌∙◌, codes, refl}
use Rattle.clap.specs.Simple.{app_of_fields, on_top}
use Rattle.clap.specs.Words.{app_of, new_app}
use Rattle.arrowflow_line.proofs.Program.{program, sends, takes}
use Rattle.arrowflow_line.proofs.command_line.command.Goals as goal

pub returns-clause-app : goal.returns-clause-app
returns-clause-app c =
    let named : app_of c.in_ok-bin_name.field-0 ≡ new_app (codes "arrowflow") = ap app_of_fields c.in_ok-bin_name.ensures.0 ∙ c.new.ensures.app in
    let top : app_of c.after_help-top.result ≡ new_app (codes "arrowflow") = ap app_of_fields c.after_help-top.ensures ∙ ap app_of_fields c.about.ensures ∙ named in
    let needs : app_of c.subcommand_required.result ≡ on_top (λ s. record s { subcommand_required = true }) (app_of c.in_ok-whole.whole) = ap app_of_fields c.subcommand_required.ensures in
    let is : app_of c.version.result ≡ on_top (λ s. record s { subcommand_required = true; has_version = true }) (app_of c.in_ok-whole.whole) =
    ap app_of_fields c.version.ensures ∙ ap (on_top (λ s. record s { has_version = true })) needs in
    program _ (app_of c.after_help-top.result) (app_of c.in_ok-whole.whole) (app_of c.version.result) top c.in_ok-whole.ensures.app is
    _ _ _ _ _ _ refl (takes _ _ _ refl refl) (takes _ _ _ refl refl) (takes _ _ _ refl refl) (takes _ _ _ refl refl)
    (sends _ _ _ _ _ refl refl refl refl) (sends _ _ _ _ _ refl refl refl refl)
