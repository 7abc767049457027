-- The command that clap finds in words without a fault is one of the program's own: `help` leads to a fault.
use Rattle.std.proofs.Common.{◌≡◌, ℕ, Bool, true, false, ◌&&◌, ◌||◌, not, if◌then◌else◌, List, [], ◌∷◌, Option, Some, None, is_some, option_map, fold, codes}
use Rattle.std.proofs.Common.{◌⊎◌, inl, inr, refl, sym, ap, subst, ◌∙◌, true≢false}
use Rattle.std.specs.Str.{bytes_eq}
use Rattle.std.proofs.lemmas.Slice.Eq.{bytes_eq-Decides}
use Rattle.clap.specs.Faults.{fault_of, other_fault, step_fault, turn_fault, walk_fault, word_fault}
use Rattle.clap.specs.Kinds.{Kinds, or_else}
use Rattle.clap.specs.Lexer.{long_of, short_of}
use Rattle.clap.specs.Simple.{App, Shape, argument_words, built, entered, names_of, rows_at, subcommand_of}
use Rattle.clap.specs.Walk.{Held, Names, Outcome, Row, Rule, Step, Text, Waiting, Walk, after_flag, after_step, arg_by_index, arg_by_long, bundle, long_met, long_or_other, nothing_held, plain_word, short_or_plain, stop_after, subcommand_met, subcommand_or_other, to_positional, walk_from, walked, walked_from, word_met}
use Rattle.clap.specs.Walk.{done, waits, plain, refused, idle, option, positional, next, trailing, subcommand, value}
use Rattle.clap.specs.declared.error.kind.ErrorKind.TheVariants as kind
use Rattle.arrowflow_line.specs.CommandLine.{Choices, IsCommand, check_app, copy_app, drill_app, explain_app, program_app, reading_app, schema_app, show_app}

-- whether a word is a command's name
abbrev is_name : Step → Bool
is_name (next waiting) = false
is_name (trailing position) = false
is_name (subcommand name) = true
is_name value = false

plain_never : (c : List Rule) (waiting : Waiting) (word : Text) (h : Held) → is_name (plain_word c waiting word h).1 ≡ false
plain_never c idle word h = refl
plain_never c (option id) word h = refl
plain_never c positional word h = refl

flag_never : (c : List Rule) (waiting : Waiting) (word : Text) (h : Held) (o : Outcome) → is_name (after_flag c waiting word h o).1 ≡ false
flag_never c waiting word h done = refl
flag_never c waiting word h (waits id) = refl
flag_never c waiting word h plain = plain_never c waiting word h
flag_never c waiting word h refused = plain_never c waiting word h

short_never : (c : List Rule) (waiting : Waiting) (word : Text) (flags : Option Text) (h : Held) → is_name (short_or_plain c waiting word flags h).1 ≡ false
short_never c waiting word (Some flags) h = flag_never c waiting word (bundle c flags h).0 (bundle c flags h).1
short_never c waiting word None h = plain_never c waiting word h

long_never : (c : List Rule) (waiting : Waiting) (word : Text) (p : Option (Text × Option Text)) (h : Held) → is_name (long_or_other c waiting word p h).1 ≡ false
long_never c waiting word (Some p) h = flag_never c waiting word (long_met c (arg_by_long c p.0) p.1 h).0 (long_met c (arg_by_long c p.0) p.1 h).1
long_never c waiting word None h = short_never c waiting word (short_of word) h

-- A word that matches none of the names is not read to be the name of a command.
other_never : (dashes : Bool) (c : List Rule) (waiting : Waiting) (position : ℕ) (word : Text) (h : Held)
    → is_name (if dashes then (h, trailing position) else long_or_other c waiting word (long_of word) h).1 ≡ false
other_never true c waiting position word h = refl
other_never false c waiting position word h = long_never c waiting word (long_of word) h

-- the command at which a walk stopped is not `help`
abbrev NotHelp : Option (Text × List Text) → Type 0
NotHelp None = Unit {0}
NotHelp (Some p) = bytes_eq p.0 (codes "help") ≡ false

-- a word is not read as the command name `help`
abbrev IsNoHelp : Step → Type 0
IsNoHelp (next waiting) = Unit {0}
IsNoHelp (trailing position) = Unit {0}
IsNoHelp (subcommand name) = bytes_eq name (codes "help") ≡ false
IsNoHelp value = Unit {0}

unnamed : (step : Step) → is_name step ≡ false → IsNoHelp step
unnamed (next waiting) h = tt
unnamed (trailing position) h = tt
unnamed (subcommand name) h = absurd (true≢false h)
unnamed value h = tt

help_faults : (is_help off : Bool) (kinds : Kinds) → off ≡ false → (if is_help && not off then kind.DisplayHelp ∷ kinds else []) ≡ [] → is_help ≡ false
help_faults false off kinds o h = refl
help_faults true false kinds o h = absurd (cc)
help_faults true true kinds o h = absurd (true≢false o)

-- A word without a fault is not read as the command name `help`.
named_so : (found : Option Text) (s : Shape) (waiting : Waiting) (position : ℕ) (word : Text) (h : Held) → s.disable_help_subcommand ≡ false
    → other_fault s found word h ≡ [] → IsNoHelp (subcommand_or_other s.rules found waiting position word h).1
named_so (Some name) s waiting position word h helps sound =
    help_faults (bytes_eq name (codes "help")) s.disable_help_subcommand (kind.InvalidSubcommand ∷ []) helps sound
named_so None s waiting position word h helps sound =
    unnamed (subcommand_or_other s.rules None waiting position word h).1 (other_never (bytes_eq word (45 ∷ 45 ∷ [])) s.rules waiting position word h)

met_so : (is_trailing : Bool) (s : Shape) (names : Names) (waiting : Waiting) (position : ℕ) (word : Text) (h : Held) → s.disable_help_subcommand ≡ false
    → word_fault s names is_trailing waiting word h ≡ [] → IsNoHelp (word_met s.rules names is_trailing waiting position word h).1
met_so true s names waiting position word h helps sound = tt
met_so false s names waiting position word h helps sound = named_so (subcommand_met names waiting word) s waiting position word h helps sound

placed : (c : List Rule) (a : Option Rule) (word : Text) (w : Walk) (h : Held) → w.stopped ≡ None → NotHelp (to_positional c a word w h).stopped
placed c None word w h goes_on = subst NotHelp (sym goes_on) tt
placed c (Some a) word w h goes_on = tt

stepped : (c : List Rule) (word : Text) (w : Walk) (h : Held) (step : Step) → w.stopped ≡ None → IsNoHelp step → NotHelp (after_step c word w h step).stopped
stepped c word w h (next waiting) goes_on other = subst NotHelp (sym goes_on) tt
stepped c word w h (trailing position) goes_on other = subst NotHelp (sym goes_on) tt
stepped c word w h (subcommand name) goes_on other = other
stepped c word w h value goes_on other = placed c (arg_by_index c w.position) word w h goes_on

both_sound : (a b : Kinds) → or_else a b ≡ [] → (a ≡ []) × (b ≡ [])
both_sound [] b h = (refl, h)
both_sound (k ∷ ks) b h = absurd (cc)

turned_from : (stopped : Option (Text × List Text)) (s : Shape) (names : Names) (w : Walk) (word : Text) → w.stopped ≡ stopped → s.disable_help_subcommand ≡ false → NotHelp stopped
    → turn_fault s names w word ≡ [] → NotHelp (walked_from s.rules names stopped w word).stopped
turned_from None s names w word is helps other sound =
    let met = word_met s.rules names w.is_trailing w.waiting w.position word w.held in
    let own : or_else (word_fault s names w.is_trailing w.waiting word w.held) (step_fault s w.position met.0 met.1) ≡ [] =
    ap (λ stopped. if is_some stopped then [] else or_else (word_fault s names w.is_trailing w.waiting word w.held) (step_fault s w.position met.0 met.1)) (sym is) ∙ sound in
    stepped s.rules word w met.0 met.1 is (met_so w.is_trailing s names w.waiting w.position word w.held helps (both_sound _ _ own).0)
turned_from (Some p) s names w word is helps other sound = other

turned : (s : Shape) (names : Names) (w : Walk) (word : Text) → s.disable_help_subcommand ≡ false → NotHelp w.stopped → turn_fault s names w word ≡ [] → NotHelp (walked s.rules names w word).stopped
unfolding walked
turned s names w word helps other sound = turned_from w.stopped s names w word refl helps other sound

-- A walk without a fault does not stop at `help`.
walked_on : (s : Shape) (names : Names) (w : Walk) (words : List Text) → s.disable_help_subcommand ≡ false → NotHelp w.stopped → walk_fault s names w words ≡ []
    → NotHelp (fold (walked s.rules names) w words).stopped
unfolding walk_fault
walked_on s names w [] helps other sound = other
walked_on s names w (word ∷ rest) helps other sound =
    let both = both_sound (turn_fault s names w word) (walk_fault s names (walked s.rules names w word) rest) sound in
    walked_on s names (walked s.rules names w word) rest helps (turned s names w word helps other both.0) both.1

-- which of seven commands is found, if the last one is not
one_of_six : (a b c d e f g : Bool) (s t u v w x y : Shape) (words : List Text) (name : Text) (rows : List Row) → g ≡ false
    → option_map (λ x. rows_at x words) (if a then Some s else (if b then Some t else (if c then Some u else (if d then Some v else (if e then Some w else (if f then Some x else (if g then Some y else None))))))) ≡ Some (name, rows)
    → (name ≡ s.name) ⊎ ((name ≡ t.name) ⊎ ((name ≡ u.name) ⊎ ((name ≡ v.name) ⊎ ((name ≡ w.name) ⊎ (name ≡ x.name)))))
one_of_six true b c d e f g s t u v w x y words name rows last h = inl (let same : rows_at s words ≡ (name, rows) = cc in sym (ap (λ p. p.0) same))
one_of_six false true c d e f g s t u v w x y words name rows last h = inr (inl (let same : rows_at t words ≡ (name, rows) = cc in sym (ap (λ p. p.0) same)))
one_of_six false false true d e f g s t u v w x y words name rows last h = inr (inr (inl (let same : rows_at u words ≡ (name, rows) = cc in sym (ap (λ p. p.0) same))))
one_of_six false false false true e f g s t u v w x y words name rows last h = inr (inr (inr (inl (let same : rows_at v words ≡ (name, rows) = cc in sym (ap (λ p. p.0) same)))))
one_of_six false false false false true f g s t u v w x y words name rows last h = inr (inr (inr (inr (inl (let same : rows_at w words ≡ (name, rows) = cc in sym (ap (λ p. p.0) same))))))
one_of_six false false false false false true g s t u v w x y words name rows last h = inr (inr (inr (inr (inr (let same : rows_at x words ≡ (name, rows) = cc in sym (ap (λ p. p.0) same))))))
one_of_six false false false false false false true s t u v w x y words name rows last h = absurd (true≢false last)
one_of_six false false false false false false false s t u v w x y words name rows last h = absurd (cc)

other_than_help : (name : Text) → bytes_eq name (codes "help") ≡ false → bytes_eq (codes "help") name ≡ false
other_than_help name h = apart (bytes_eq (codes "help") name) refl where
  apart : (b : Bool) → bytes_eq (codes "help") name ≡ b → b ≡ false
  apart false e = refl
  apart true e =
      let same : name ≡ codes "help" = sym ((bytes_eq-Decides (codes "help") name).0 e) in
      absurd (true≢false (sym (ap (λ n. bytes_eq n (codes "help")) same) ∙ h))

module _ (s c r e u a t v b z : Choices) where
  -- the program's command line
  abbrev pub line : App
  line = program_app (reading_app (schema_app s) (check_app c) (show_app r) (explain_app e)) (copy_app u a t) (drill_app v b z)

  entered_so : (stop : Option (Text × List Text)) (name : Text) (rows : List Row) → NotHelp stop → entered (built line) stop ≡ Some (name, rows) → IsCommand name
  entered_so None name rows other h = absurd (cc)
  entered_so (Some p) name rows other h =
      one_of_six (bytes_eq (codes "schema") p.0 || false) (bytes_eq (codes "check") p.0 || false) (bytes_eq (codes "show") p.0 || false) (bytes_eq (codes "explain") p.0 || false) (bytes_eq (codes "copy") p.0 || false) (bytes_eq (codes "drill") p.0 || false) (bytes_eq (codes "help") p.0 || false) _ _ _ _ _ _ _ p.1 name rows
      (ap (λ b. b || false) (other_than_help p.0 other)) h

  -- The command that is found in words without a fault is one of the program's.
  pub command_found : (words : List Text) (name : Text) (rows : List Row) → fault_of line words ≡ [] → subcommand_of line words ≡ Some (name, rows) → IsCommand name
  command_found words name rows sound found =
      let a = built line in
      let given = argument_words line words in
      let walk_sound : walk_fault a.top (names_of a) (walk_from nothing_held) given ≡ [] = (both_sound _ _ sound).0 in
      entered_so (stop_after a.top.rules (names_of a) given) name rows (walked_on a.top (names_of a) (walk_from nothing_held) given refl tt walk_sound) found
