-- The rows in a window of a stream that is reported message by message.
use Rattle.std.proofs.Common.{◌≡◌, ℕ, ◌+◌, List, [], ◌∷◌, ◌++◌, length, take, drop, Option, Some, sym, ap, ◌∙◌, subst, take-append-drop}
use Rattle.std.specs.Io.KnownBytes.{Appends}
use Rattle.std.proofs.KnownBytes.{Appends-trans}
use Rattle.std.proofs.lemmas.List.{length-append}
use Rattle.arrow_csv.specs.Layouts.{Form}
use Rattle.arrow_csv.specs.Named.{Choice, chosen_schema}
use Rattle.arrow_sink.specs.Sinks.{AcceptsBeginning}
use Rattle.arrow_stream_reader.specs.declared.item.Item.{Item}
use Rattle.arrow_stream_reader.specs.declared.reader.Verdict.TheVariants.{Open}
use Rattle.arrow_stream_reader.specs.Front.{Entry, Snapshot, FrontOf}
use Rattle.arrow_stream_reader.specs.Stream.{ReaderView, GivesNext}
use Rattle.arrow_stream_reader.specs.Tables.{table_in, tables_of}
use Rattle.arrow_stream_reader.specs.Views.{given}
use Rattle.arrowflow_text.specs.Chosen.{HaveChosen, IsChosenAt, chosen_given}
use Rattle.arrowflow_text.specs.Windows.{IsChosenWithin, IsEnoughReported, IsOver, IsPartCut, IsPartIn, IsPartReported, window_after}
use Rattle.arrowflow_text.specs.declared.window.Window.{Window}
use Rattle.arrowflow_text.proofs.Growing.{have_next}
use Rattle.arrowflow_input.proofs.Feeding.{one_table}
use Rattle.arrowflow_input.proofs.Beginnings.{begun_after}
use Rattle.arrowflow_text.proofs.Windows.{all_there, grows_within, left_next}

-- a message came after these bytes, and some rows of their stream are to be reported
module _ (form : Form) (choice : Choice) (w v : Window) (first held : Option (List ℕ)) (number : ℕ) (now new : ReaderView) (u rest : List ℕ) (es : List Entry) (y : IsPartReported form choice w first held number (Some v) now u es) (n : ℕ) (item : Item)
    (is_open : now.at.verdict ≡ Open) (limits : new.limits ≡ now.limits) (gives : GivesNext rest n item new u es) (has : IsChosenAt choice new.at.state.schema (given item)) (added : List ℕ)
    (is_added : IsPartIn form v (chosen_schema choice new.at.state.schema) number (chosen_given choice (given item)) added) where
  abbrev came : Entry
  came = record { given = given item; end = length u + n }

  abbrev fs : List Entry
  fs = es ++ came ∷ []

  abbrev snapshot : Snapshot
  snapshot = record { state = new.at.state; place = new.at.place; rest = gives.position.rest; verdict = new.at.verdict }

  abbrev front_now : FrontOf now.limits (u ++ take n rest) fs snapshot
  front_now = subst (λ l. FrontOf l (u ++ take n rest) fs snapshot) limits gives.position.front

  all_added : HaveChosen choice new.at.state.schema × IsChosenWithin form choice w new.at.state.schema (tables_of fs) (y.text ++ added)
  all_added =
      let schema = chosen_schema choice new.at.state.schema in
      let its = subst (λ k. IsPartIn form v schema k (chosen_given choice (given item)) added) y.counted is_added in
      let own = subst (λ x. IsPartIn form x schema (length (tables_of es)) (chosen_given choice (given item)) added) y.left_are.0 its in (
        have_next choice (take n rest) came y.position.front is_open front_now y.has has,
        grows_within form choice w (take n rest) came y.position.front is_open front_now y.text added y.is own,
      )

  counted_next : number + length (table_in (given item)) ≡ length (tables_of fs)
  counted_next = ap (λ m. m + length (table_in (given item))) y.counted ∙ sym (ap length (one_table es came) ∙ length-append (tables_of es) (table_in (given item)))

  -- its rows were written, and more are to be reported
  pub part_reported : (held' : Option (List ℕ)) → Appends held held' added → (IsOver (window_after v number (table_in (given item))) (number + length (table_in (given item))) → ⊥)
      → IsPartReported form choice w first held' (number + length (table_in (given item))) (Some (window_after v number (table_in (given item)))) new (u ++ take n rest) fs
  part_reported held' sent more = record {
    position = gives.position;
    has = all_added.0;
    text = y.text ++ added;
    is = all_added.1;
    wrote = Appends-trans first held held' y.text added y.wrote sent;
    counted = counted_next;
    left_are = left_next w v number (number + length (table_in (given item))) es came y.left_are.0 y.counted counted_next more;
  }

  -- or no further row is to be reported
  pub part_enough : (held' : Option (List ℕ)) → Appends held held' added → IsOver (window_after v number (table_in (given item))) (number + length (table_in (given item))) → IsEnoughReported form choice w first held' new u rest
  part_enough held' sent over = record {
    taken = take n rest;
    rest = drop n rest;
    whole = take-append-drop n rest;
    entries = fs;
    position = gives.position;
    there = all_there w v number (number + length (table_in (given item))) es came gives.position.front y.left_are.0 y.counted counted_next over;
    has = all_added.0;
    text = y.text ++ added;
    is = all_added.1;
    wrote = Appends-trans first held held' y.text added y.wrote sent;
  }

  -- or a prefix of them was written
  pub part_cut : (held' : Option (List ℕ)) → AcceptsBeginning held held' added → IsPartCut form choice w first held' new u rest
  part_cut held' sent = record {
    taken = take n rest;
    rest = drop n rest;
    whole = take-append-drop n rest;
    entries = fs;
    position = gives.position;
    has = all_added.0;
    text = y.text ++ added;
    is = all_added.1;
    wrote = begun_after first held held' y.text added y.wrote sent;
  }
