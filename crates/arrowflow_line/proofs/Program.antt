-- The program's command line, from the rows of the table.
use Rattle.std.proofs.Common.{◌≡◌, ◌∷◌, [], List, codes, refl, ap, ◌∙◌, true}
use Rattle.clap.specs.Simple.{App, new_app, on_top}
use Rattle.arrowflow_line.specs.CommandLine.{Choices, IsProgram, Sends, Takes, app_by, check_app, copy_app, drill_app, explain_app, reading_app, schema_app, show_app, with_rows, words_of}
use Rattle.arrowflow_line.specs.declared.arguments.CommandRow.{CommandRow}

-- a command whose sets of types are the core and all
pub takes : (command : Choices → App) (app : App) (types : Choices) → app ≡ command types → words_of types ≡ codes "core" ∷ codes "all" ∷ [] → Takes command app
takes command app types is types_are = record { types = types; types_are = types_are; is = is }

-- one that writes streams, too
pub sends : (command : Choices → Choices → Choices → App) (app : App) (updates aligns types : Choices) → app ≡ command updates aligns types
    → words_of updates ≡ codes "delta" ∷ codes "resend" ∷ [] → words_of aligns ≡ codes "8" ∷ codes "64" ∷ [] → words_of types ≡ codes "core" ∷ codes "all" ∷ [] → Sends command app
sends command app updates aligns types is updates_are aligns_are types_are =
    record { updates = updates; aligns = aligns; types = types; updates_are = updates_are; aligns_are = aligns_are; types_are = types_are; is = is }

module _ (rows : List CommandRow) (top whole app : App) (named : top ≡ new_app (codes "arrowflow")) (given : whole ≡ with_rows top rows)
    (is : app ≡ on_top (λ s. record s { subcommand_required = true; has_version = true }) whole) where
  -- with six commands, the version, and the rule that one of them is required
  pub program : (schema check show explain copying drilling : CommandRow) → rows ≡ schema ∷ check ∷ show ∷ explain ∷ copying ∷ drilling ∷ []
      → Takes schema_app (app_by schema) → Takes check_app (app_by check) → Takes show_app (app_by show) → Takes explain_app (app_by explain)
      → Sends copy_app (app_by copying) → Sends drill_app (app_by drilling) → IsProgram app
  unfolding with_rows
  program schema check show explain copying drilling six s c w e y d = record {
    reading = reading_app (app_by schema) (app_by check) (app_by show) (app_by explain);
    reads = record {
      schema = app_by schema;
      has_schema = s;
      check = app_by check;
      has_check = c;
      show = app_by show;
      has_show = w;
      explain = app_by explain;
      has_explain = e;
      is = refl;
    };
    copying = app_by copying;
    copies = y;
    drilling = app_by drilling;
    drills = d;
    is = is ∙ ap (on_top (λ s. record s { subcommand_required = true; has_version = true })) (given ∙ (λ i. with_rows (named i) (six i)));
  }
