-- What the words of a command line ask for, in clap's terms: what clap reads from a command, and what it finds in
-- words.
use Rattle.std.specs.Prelude.{fold, ◌++◌, ◌≡◌, ◌≤◌, ◌-◌, ◌^◌, ◌⊎◌, ℕ, List, [], ◌∷◌, Bool, true, false, codes, ◌==◌, map, option_map, if◌then◌else◌, Option, None, Some, is_some, is_none, Result, Ok, Err, ⊤, string_bytes, unwrap_or}
use Rattle.std.specs.List.{slice_split}
use Rattle.std.specs.Str.{bytes_eq}
use Rattle.std.specs.Str.Parse.{digits_value, without_leading_plus}
use Rattle.std.specs.Borrow.{Bor}
use Rattle.arrow_body_writer.specs.declared.align.Align.{Align}
use Rattle.arrow_body_writer.specs.declared.align.Align.TheVariants.{Eight, SixtyFour}
use Rattle.arrow_dict.specs.declared.update.Updates.{Updates}
use Rattle.arrow_dict.specs.declared.update.Updates.TheVariants.{Delta, Resend}
use Rattle.arrow_stream_writer.specs.declared.options.Options.{Options}
use Rattle.arrow_types.specs.Limits.{LimitNumbers}
use Rattle.arrow_types.specs.declared.type_set.TypeSet.{TypeSet}
use Rattle.arrow_types.specs.declared.type_set.TypeSet.TheVariants.{Core, All}
use Rattle.clap.specs.declared.builder.action.ArgAction.TheVariants.{SetTrue}
use Rattle.clap.specs.Lexer.{usize_max}
use Rattle.clap.specs.Values.{IsUnsignedIn}
use Rattle.clap.specs.declared.builder.command.Command.{Command}
use Rattle.clap.specs.declared.builder.command.Command.TheViews.{out-Command}
use Rattle.clap.specs.declared.builder.value_parser.ValueParser.{ValueParser}
use Rattle.clap.specs.declared.builder.value_parser.ValueParser.TheVariants as parsers
use Rattle.clap.specs.Simple.{on_top}
use Rattle.clap.specs.Walk.{Rule}
use Rattle.clap.specs.Words.{App, HasKind, Row, Text, all_of, fault_of, first_of, new_app, new_rule, one_of, subcommand_of, with_rule, with_subcommand}
use Rattle.arrowflow_line.specs.Sizes.{IsSizeIn, LacksSize}
use Rattle.arrowflow_line.specs.declared.arguments.Argument.{Argument}
use Rattle.arrowflow_line.specs.declared.arguments.Role.{Role}
use Rattle.arrowflow_line.specs.declared.arguments.Role.TheVariants as roles
use Rattle.arrowflow_line.specs.declared.fault.ArgFault.{ArgFault}
use Rattle.arrowflow_line.specs.declared.fault.ArgFault.TheVariants.{Line, Misused, Memory}
use Rattle.arrowflow_line.specs.declared.fault.Misuse.{Misuse}
use Rattle.arrowflow_line.specs.declared.fault.Misuse.TheVariants.{NoOutput, NoSize, TwoOutputs}
use Rattle.arrowflow_line.specs.declared.fault.SizeOption.{SizeOption}
use Rattle.arrowflow_line.specs.declared.fault.SizeOption.TheVariants.{Bytes, LimitBody, LimitBytes, LimitMetadata, Piece}
use Rattle.arrowflow_line.specs.declared.plans.Plan.{Plan}
use Rattle.arrowflow_line.specs.declared.plans.CopyOptions.{CopyOptions}
use Rattle.arrowflow_line.specs.declared.plans.Files.{Files}
use Rattle.arrowflow_line.specs.declared.plans.ShowOptions.{ShowOptions}
use Rattle.arrowflow_line.specs.declared.plans.Task.{Task}
use Rattle.arrowflow_line.specs.declared.plans.Totals.{Totals}
use Rattle.arrowflow_line.specs.declared.arguments.CommandRow.{CommandRow}
use Rattle.arrowflow_line.specs.declared.plans.Task.TheVariants.{Schema, Check, Show, Explain, Copy, Drill}

-- no argument of the command is also one of its subcommands'
abbrev pub HasNoGlobals : Command → Type 0
HasNoGlobals c = (out-Command c).has_globals ≡ false

-- a line without a subcommand is rejected
abbrev pub NeedsSubcommand : Command → Type 0
NeedsSubcommand c = (out-Command c).subcommand_required ≡ true

-- ---- what the program takes

-- a required name
abbrev pub needed : Text → Rule
needed id = record (new_rule id) { required = true }

-- one name or more
abbrev pub needed_some : Text → Rule
needed_some id = record (needed id) { range = Some (record { start_inclusive = 1; end_inclusive = usize_max }) }

-- an optional name
abbrev pub maybe : Text → Rule
maybe id = new_rule id

-- names, any number of them
abbrev pub maybe_some : Text → Rule
maybe_some id = record (maybe id) { range = Some (record { start_inclusive = 1; end_inclusive = usize_max }) }

-- an option with a letter as its short name
abbrev pub lettered : ℕ → Rule → Rule
lettered letter rule = record rule { short = Some letter }

-- an option with this name
abbrev pub named : Text → Rule
named name = record (new_rule name) { long = Some name }

-- an option with this name, with a value that passes this parser, and its default
abbrev pub option : Text → ValueParser → Text → Rule
option name parser default = record (named name) { parser = Some parser; defaults = default ∷ [] }

-- an option with this name and without a value
abbrev pub flag : Text → Rule
flag name = record (named name) { action = Some SetTrue }

-- an option with this name and with a text, without a default; help shows one word for the text
abbrev pub text : Text → Rule
text name = record (named name) { value_names = 1 }

-- an option with this name and with a 64-bit number, without a default; help shows one word for the number
abbrev pub number : Text → Rule
number name = record (named name) { parser = Some (parsers.Unsigned 0 (2 ^ 64 - 1)); value_names = 1 }

-- an option with this name and with a number up to this ceiling, and its default; help shows one word for the number
abbrev pub limit : Text → ℕ → Text → Rule
limit name ceiling default = record (option name (parsers.Unsigned 0 ceiling) default) { value_names = 1 }

-- an option with this name and with a size, and its default as text; help shows one word for the size
abbrev pub size : Text → Text → Rule
size name default = record (option name parsers.String default) { value_names = 1 }

-- the words one of which a value has to be
abbrev pub Choices : Type 0
Choices = Bor (List (Bor Text))

-- these words, as texts
abbrev pub words_of : Choices → List Text
words_of choices = map (λ w. w.now) choices.now

-- what clap reads for an argument in a role
abbrev pub rule_in_role : Text → Role → Rule
rule_in_role name roles.Name = needed name
rule_in_role name roles.Names = needed_some name
rule_in_role name roles.NameIfAny = maybe name
rule_in_role name roles.NamesIfAny = maybe_some name
rule_in_role name roles.Flag = flag name
rule_in_role name (roles.Text word) = text name
rule_in_role name roles.Number = number name
rule_in_role name (roles.Size default) = size name default.now
rule_in_role name (roles.Limit ceiling default) = limit name ceiling default.now
rule_in_role name (roles.OneOf words default) = option name (parsers.Names words) default.now

-- what clap reads for an argument of the tables
abbrev pub rule_by : Argument → Rule
rule_by a = record (rule_in_role a.0.now a.2) { short = a.1 }

-- the command of a row of the tables
abbrev pub app_by : CommandRow → App
app_by row = fold (λ app group. fold with_rule app (map rule_by group.now)) (new_app row.name.now) row.groups.now

-- the options for the limits of a message
abbrev pub limits : List Rule
limits = size (codes "limit-metadata") (codes "67108864") ∷ size (codes "limit-body") (codes "68719476736") ∷ limit (codes "limit-rows") 2147483647 (codes "2147483647") ∷ []

-- the options for the bounds of a complete stream
abbrev pub totals : List Rule
totals = number (codes "limit-total-rows") ∷ number (codes "limit-messages") ∷ text (codes "limit-bytes") ∷ []

-- the options for how a stream is written
abbrev pub writing : Choices → Choices → List Rule
writing updates aligns = option (codes "updates") (parsers.Names updates) (codes "delta") ∷ option (codes "align") (parsers.Names aligns) (codes "64") ∷ []

-- the option for the sets of types
abbrev pub types_of : Choices → List Rule
types_of types = option (codes "types") (parsers.Names types) (codes "core") ∷ []

-- any number of files, each of which lines may name, and lines of JSON
abbrev pub files : List Rule
files = maybe_some (codes "FILE") ∷ lettered 72 (flag (codes "with-filename")) ∷ flag (codes "json") ∷ []

-- which rows are printed, and how
abbrev pub shown : List Rule
shown =
    lettered 99 (text (codes "columns")) ∷ number (codes "batch") ∷ number (codes "skip") ∷ lettered 110 (number (codes "rows")) ∷ text (codes "null") ∷ flag (codes "no-batch") ∷ flag (codes "json") ∷ []

-- what is copied where, and how the output is treated
abbrev pub copied : List Rule
copied = needed (codes "IN") ∷ maybe (codes "OUT") ∷ flag (codes "atomic") ∷ flag (codes "in-place") ∷ flag (codes "no-clobber") ∷ flag (codes "fail-downstream") ∷ []

-- the streams of connections, and what is delivered of each
abbrev pub delivered : List Rule
delivered = needed_some (codes "FILE") ∷ size (codes "bytes") (codes "4611686018427387904") ∷ size (codes "piece") (codes "65536") ∷ []

-- a command with this name and these arguments
abbrev pub with_rules : Text → List Rule → App
with_rules name rules = fold with_rule (new_app name) rules

-- the command that prints schemas
abbrev pub schema_app : Choices → App
schema_app types = with_rules (codes "schema") (files ++ limits ++ types_of types)

-- the command that checks
abbrev pub check_app : Choices → App
check_app types = with_rules (codes "check") (files ++ lettered 113 (flag (codes "quiet")) ∷ totals ++ limits ++ types_of types)

-- the command that prints rows
abbrev pub show_app : Choices → App
show_app types = with_rules (codes "show") (maybe (codes "FILE") ∷ shown ++ totals ++ limits ++ types_of types)

-- the command that reports why a stream is rejected
abbrev pub explain_app : Choices → App
explain_app types = with_rules (codes "explain") (maybe (codes "FILE") ∷ limits ++ types_of types)

-- the command that copies
abbrev pub copy_app : Choices → Choices → Choices → App
copy_app updates aligns types = with_rules (codes "copy") (copied ++ totals ++ writing updates aligns ++ limits ++ types_of types)

-- the command that drills
abbrev pub drill_app : Choices → Choices → Choices → App
drill_app updates aligns types = with_rules (codes "drill") (delivered ++ writing updates aligns ++ limits ++ types_of types)

-- a command with the option for the sets of types: the core, or all
pub record Takes (command : Choices → App) (app : App) : Type 0 where
  pub types : Choices
  pub types_are : words_of types ≡ codes "core" ∷ codes "all" ∷ []
  pub is : app ≡ command types

-- a command that writes streams too: updates are sent as deltas or again, and the alignment is 8 or 64
pub record Sends (command : Choices → Choices → Choices → App) (app : App) : Type 0 where
  pub updates : Choices
  pub aligns : Choices
  pub types : Choices
  pub updates_are : words_of updates ≡ codes "delta" ∷ codes "resend" ∷ []
  pub aligns_are : words_of aligns ≡ codes "8" ∷ codes "64" ∷ []
  pub types_are : words_of types ≡ codes "core" ∷ codes "all" ∷ []
  pub is : app ≡ command updates aligns types

-- a command line with one more command
abbrev pub with_command : App → App → App
with_command app command = with_subcommand app command.top

-- a command line with the commands of these rows of the table
unfoldable pub with_rows : App → List CommandRow → App
with_rows app rows = fold with_command app (map app_by rows)

-- the commands that only read
abbrev pub reading_app : App → App → App → App → App
reading_app schema check show explain = with_command (with_command (with_command (with_command (new_app (codes "arrowflow")) schema) check) show) explain

-- the value is the command line with these commands
pub record IsReading (app : App) : Type 0 where
  pub schema : App
  pub has_schema : Takes schema_app schema
  pub check : App
  pub has_check : Takes check_app check
  pub show : App
  pub has_show : Takes show_app show
  pub explain : App
  pub has_explain : Takes explain_app explain
  pub is : app ≡ reading_app schema check show explain

-- the program's command line: it has a version, and requires one of six commands
abbrev pub program_app : App → App → App → App
program_app reading copying drilling = on_top (λ s. record s { subcommand_required = true; has_version = true }) (with_command (with_command reading copying) drilling)

-- the value is the program's command line
pub record IsProgram (app : App) : Type 0 where
  pub reading : App
  pub reads : IsReading reading
  pub copying : App
  pub copies : Sends copy_app copying
  pub drilling : App
  pub drills : Sends drill_app drilling
  pub is : app ≡ program_app reading copying drilling

-- ---- what is asked for

-- the text that clap found for an argument, empty if it found none
abbrev pub name_in : Text → List Row → Text
name_in id rows = unwrap_or (first_of id rows) []

-- that text, if it found one
abbrev pub name_if_any : Text → List Row → Option Text
name_if_any id rows = first_of id rows

-- all texts that clap found for an argument
abbrev pub names_in : Text → List Row → List Text
names_in id rows = unwrap_or (all_of id rows) []

-- the names in a text, separated by commas
abbrev pub names_by : Text → List Text
names_by names = slice_split (λ b. b == 44) names

-- the names in the text that clap found, if it found one
abbrev pub names_if_any : Text → List Row → Option (List Text)
names_if_any id rows = option_map names_by (first_of id rows)

-- the text of a number
abbrev pub number_text : Text → List Row → Option Text
number_text id rows = one_of id rows

-- The number that a text represents, within these bounds. (clap rejects a text that represents no such number.)
pub record IsNumberOf (least most : ℕ) (text : Option Text) (n : ℕ) : Type 0 where
  pub low : least ≤ n
  pub high : n ≤ most
  pub said : (t : Text) → text ≡ Some t → IsUnsignedIn least most t → n ≡ digits_value 10 (without_leading_plus t)

-- how updates of dictionaries are sent, by the word for it
abbrev pub updates_by : Text → Updates
updates_by word = if bytes_eq word (codes "resend") then Resend else Delta

-- the set of types, by the word for it
abbrev pub types_by : Text → TypeSet
types_by word = if bytes_eq word (codes "all") then All else Core

-- the alignment, by its number of bytes
abbrev pub align_by : Text → Align
align_by word = if bytes_eq word (codes "8") then Eight else SixtyFour

-- The 64-bit number that a text represents; none if there is no text. (clap rejects a text that represents no such
-- number.)
abbrev pub IsNumberIfAny : Option Text → Option ℕ → Type 0
IsNumberIfAny None n = n ≡ None
IsNumberIfAny (Some t) n = IsUnsignedIn 0 (2 ^ 64 - 1) t → n ≡ Some (digits_value 10 (without_leading_plus t))

-- whether an option without a value was given: clap finds `true` for it if it was, else `false`
abbrev pub is_given : Text → List Row → Bool
is_given id rows = bytes_eq (name_in id rows) (codes "true")

-- how a stream is written
abbrev pub options_in : List Row → Options
options_in rows = record { updates = updates_by (name_in (codes "updates") rows); align = align_by (name_in (codes "align") rows) }

-- which files are read, whether lines name them, and whether they are JSON
pub record AreFiles (rows : List Row) (files : Files) : Type 0 where
  pub names : map string_bytes files.names.items ≡ names_in (codes "FILE") rows
  pub with_filename : files.with_filename ≡ is_given (codes "with-filename") rows
  pub json : files.json ≡ is_given (codes "json") rows

-- which rows are printed, and how
pub record AreShown (rows : List Row) (options : ShowOptions) : Type 0 where
  pub columns : option_map (λ names. map string_bytes names.items) options.columns ≡ names_if_any (codes "columns") rows
  pub batch : IsNumberIfAny (number_text (codes "batch") rows) options.batch
  pub skip : IsNumberIfAny (number_text (codes "skip") rows) options.skip
  pub first : IsNumberIfAny (number_text (codes "rows") rows) options.rows
  pub null : option_map string_bytes options.null ≡ name_if_any (codes "null") rows
  pub no_batch : options.no_batch ≡ is_given (codes "no-batch") rows
  pub json : options.json ≡ is_given (codes "json") rows

-- how a stream is copied
abbrev pub copy_options_in : List Row → CopyOptions
copy_options_in rows = record {
  stream = options_in rows;
  atomic = is_given (codes "atomic") rows;
  no_clobber = is_given (codes "no-clobber") rows;
  fail_downstream = is_given (codes "fail-downstream") rows;
}

-- a command that the program has
abbrev pub IsCommand : Text → Type 0
IsCommand name = (name ≡ codes "schema") ⊎ ((name ≡ codes "check") ⊎ ((name ≡ codes "show") ⊎ ((name ≡ codes "explain") ⊎ ((name ≡ codes "copy") ⊎ (name ≡ codes "drill")))))

-- the name of an option with a size, and the bounds of the size
abbrev pub size_name : SizeOption → Text
size_name LimitMetadata = codes "limit-metadata"
size_name LimitBody = codes "limit-body"
size_name LimitBytes = codes "limit-bytes"
size_name Bytes = codes "bytes"
size_name Piece = codes "piece"

abbrev pub least_size : SizeOption → ℕ
least_size LimitMetadata = 0
least_size LimitBody = 0
least_size LimitBytes = 0
least_size Bytes = 0
least_size Piece = 1

abbrev pub most_size : SizeOption → ℕ
most_size LimitMetadata = 2 ^ 30
most_size LimitBody = 2 ^ 40
most_size LimitBytes = 2 ^ 62
most_size Bytes = 2 ^ 62
most_size Piece = 2 ^ 30

-- the size that was asked for with this option
abbrev pub IsSizeOf : SizeOption → List Row → ℕ → Type 0
IsSizeOf option rows n = IsSizeIn (least_size option) (most_size option) (name_in (size_name option) rows) n

-- the size that was asked for with this option, none if it was not given
abbrev pub IsSizeIfAny : SizeOption → List Row → Option ℕ → Type 0
IsSizeIfAny option rows None = name_if_any (size_name option) rows ≡ None
IsSizeIfAny option rows (Some n) = (is_some (name_if_any (size_name option) rows) ≡ true) × IsSizeOf option rows n

-- the command with this name has a size for this option: for `--limit-bytes` only if the option was given
abbrev pub HasSize : Text → List Row → SizeOption → Type 0
HasSize name rows LimitMetadata = ⊤
HasSize name rows LimitBody = ⊤
HasSize name rows LimitBytes = is_some (name_if_any (codes "limit-bytes") rows) ≡ true
HasSize name rows Bytes = name ≡ codes "drill"
HasSize name rows Piece = name ≡ codes "drill"

-- What is wrong with a line in which clap finds no fault: an option has no size within its bounds; a copy has no
-- output, or is in place and has an output too.
abbrev pub IsMisuse : Text → List Row → Misuse → Type 0
IsMisuse name rows (NoSize option) = HasSize name rows option × LacksSize (least_size option) (most_size option) (name_in (size_name option) rows)
IsMisuse name rows NoOutput = (name ≡ codes "copy") × (name_if_any (codes "OUT") rows ≡ None) × (is_given (codes "in-place") rows ≡ false)
IsMisuse name rows TwoOutputs = (name ≡ codes "copy") × (is_some (name_if_any (codes "OUT") rows) ≡ true) × (is_given (codes "in-place") rows ≡ true)

-- the fault of a command in whose words clap finds no fault
abbrev pub IsFaultIn : Text → List Row → ArgFault → Type 0
IsFaultIn name rows (Line error) = ⊥
IsFaultIn name rows (Misused misuse) = IsMisuse name rows misuse
IsFaultIn name rows Memory = ⊤

-- the misuse is that this option's value is not a size within its bounds, and it is not
abbrev pub LacksSizeOf : SizeOption → List Row → Misuse → Type 0
LacksSizeOf option rows misuse = (misuse ≡ NoSize option) × LacksSize (least_size option) (most_size option) (name_in (size_name option) rows)

-- the same for an option that was given
abbrev pub LacksGiven : SizeOption → List Row → Misuse → Type 0
LacksGiven option rows misuse = (is_some (name_if_any (size_name option) rows) ≡ true) × LacksSizeOf option rows misuse

-- the same for a limit
abbrev pub LacksLimit : List Row → Misuse → Type 0
LacksLimit rows misuse = LacksSizeOf LimitMetadata rows misuse ⊎ LacksSizeOf LimitBody rows misuse

-- the limits that were asked for
pub record AreLimitsIn (rows : List Row) (limits : LimitNumbers) : Type 0 where
  pub metadata : IsSizeOf LimitMetadata rows limits.max_metadata
  pub body : IsSizeOf LimitBody rows limits.max_body
  pub most_rows : IsNumberOf 0 2147483647 (number_text (codes "limit-rows") rows) limits.max_rows
  pub types : limits.types ≡ types_by (name_in (codes "types") rows)

-- the bounds of a complete stream that were asked for
pub record AreTotalsIn (rows : List Row) (totals : Totals) : Type 0 where
  pub all_rows : IsNumberIfAny (number_text (codes "limit-total-rows") rows) totals.rows
  pub messages : IsNumberIfAny (number_text (codes "limit-messages") rows) totals.messages
  pub bytes : IsSizeIfAny LimitBytes rows totals.bytes

-- the task of the command with this name, from what clap found after the name
abbrev pub IsTask : Text → List Row → Task → Type 0
IsTask name rows (Schema files) = (name ≡ codes "schema") × AreFiles rows files
IsTask name rows (Check files quiet) = (name ≡ codes "check") × AreFiles rows files × (quiet ≡ is_given (codes "quiet") rows)
IsTask name rows (Show file options) = (name ≡ codes "show") × (option_map string_bytes file ≡ name_if_any (codes "FILE") rows) × AreShown rows options
IsTask name rows (Explain file) = (name ≡ codes "explain") × (option_map string_bytes file ≡ name_if_any (codes "FILE") rows)
IsTask name rows (Copy input output options) =
    (name ≡ codes "copy") × (string_bytes input ≡ name_in (codes "IN") rows) × (option_map string_bytes output ≡ name_if_any (codes "OUT") rows)
    × (is_given (codes "in-place") rows ≡ is_none output) × (options ≡ copy_options_in rows)
IsTask name rows (Drill files options bytes piece) =
    (name ≡ codes "drill") × (map string_bytes files.items ≡ names_in (codes "FILE") rows) × (options ≡ options_in rows)
    × IsSizeOf Bytes rows bytes × IsSizeOf Piece rows piece

-- the plan of that task, with the limits and the bounds that were asked for
abbrev pub IsPlan : Text → List Row → Plan → Type 0
IsPlan name rows plan = IsTask name rows plan.task × AreLimitsIn rows plan.limits × AreTotalsIn rows plan.totals

-- the plan of the command that clap finds in the words, from what it finds after the command's name
pub record IsAskedFor (app : App) (words : List Text) (plan : Plan) : Type 0 where
  pub name : Text
  pub rows : List Row
  pub found : subcommand_of app words ≡ Some (name, rows)
  pub is : IsPlan name rows plan

-- the misuse of the command that clap finds in the words
pub record IsMisusedBy (app : App) (words : List Text) (misuse : Misuse) : Type 0 where
  pub name : Text
  pub rows : List Row
  pub found : subcommand_of app words ≡ Some (name, rows)
  pub is : IsMisuse name rows misuse

-- The result for the words of a line: a plan if clap has no fault for them and nothing else is wrong with them; else
-- an error of a kind that clap has, or what else is wrong. An allocation may fail at any time.
abbrev pub AnswersLine : List Text → Result Plan ArgFault → Type 0
AnswersLine words (Ok plan) = (app : App) × IsProgram app × IsAskedFor app words plan × (fault_of app words ≡ [])
AnswersLine words (Err (Line error)) = (app : App) × IsProgram app × HasKind (fault_of app words) error
AnswersLine words (Err (Misused misuse)) = (app : App) × IsProgram app × IsMisusedBy app words misuse × (fault_of app words ≡ [])
AnswersLine words (Err Memory) = ⊤
