-- What clap finds in words.
use Rattle.std.proofs.Common.{◌≡◌, ℕ, List, [], Option, Some, None, Result, Ok, Err, option_map, unwrap_or, ap, refl}
use Rattle.std.specs.Prelude.{Box}
use Rattle.std.specs.Box.{box_value}
use Rattle.std.specs.Str.Parse.{ParsesUnsigned, digits_value, without_leading_plus}
use Rattle.clap.specs.Matches.{ReadsOne}
use Rattle.clap.specs.Simple.{subcommand_rows}
use Rattle.clap.specs.Values.{IsUnsignedIn}
use Rattle.clap.specs.Words.{Row, Text, first_value, matched_of, raw_values, rows_of, subcommand_name_of, subcommand_rows_of}
use Rattle.clap.proofs.WalkLemmas.{first_value-rows, raw_values-rows}
use Rattle.clap.specs.declared.parser.matches.ArgMatches.{ArgMatches}
use Rattle.clap.specs.declared.parser.matches.ArgMatches.TheViews.{out-ArgMatches, out-SubCommand}
use Rattle.clap.specs.declared.parser.matches.Found.{Found}
use Rattle.clap.specs.declared.parser.matches.SubCommand.{SubCommand}
use Rattle.arrowflow_line.specs.CommandLine.{name_in, names_in}

-- the command that was found, by its name and by what was found after the name
pub met_as : (met : Option (Text × List Row)) (name : Text) (rows : List Row) → Some name ≡ option_map (λ p. p.0) met → Some rows ≡ option_map (λ p. p.1) met → met ≡ Some (name, rows)
met_as None name rows a b = absurd (cc)
met_as (Some p) name rows a b = let first : p.0 ≡ name = cc in let second : p.1 ≡ rows = cc in λ i. Some (first i, second i)

name_next_to : {Z : Type 0} (s : Option (Box SubCommand Z)) → option_map (λ b. (out-SubCommand (box_value b)).name.now) s ≡ option_map (λ p. p.0) (subcommand_rows s)
name_next_to None = refl
name_next_to (Some b) = refl

-- the name of the command is the one next to its rows
pub name_met : (m : ArgMatches) → subcommand_name_of m ≡ option_map (λ p. p.0) (subcommand_rows_of m)
name_met m = name_next_to (out-ArgMatches m).subcommand

-- the text that was found for an argument is in its row
pub name_found : (f : Found) (id : Text) → unwrap_or (first_value f id) [] ≡ name_in id (rows_of f)
name_found f id = ap (λ v. unwrap_or v []) (first_value-rows f id)

-- so are all texts that were found for it
pub names_found : (f : Found) (id : Text) → unwrap_or (option_map raw_values (matched_of f id)) [] ≡ names_in id (rows_of f)
names_found f id = ap (λ v. unwrap_or v []) (raw_values-rows f id)

-- a text that was accepted as a number is read as that number
pub read_so : (E : Type 0) (G : List ℕ → Result ℕ E → Type 0) (low high : ℕ) (t : List ℕ) (r : Option ℕ) → ReadsOne G t r → ((u : List ℕ) (x : Result ℕ E) → G u x → ParsesUnsigned 64 10 u x)
    → IsUnsignedIn low high t → r ≡ Some (digits_value 10 (without_leading_plus t))
read_so E G low high t (Some v) read only within = ap Some (only t (Ok v) read).1
read_so E G low high t None read only within = absurd (only t (Err read.0) read.1 (within.0, within.1))
