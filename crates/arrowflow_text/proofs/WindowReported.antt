-- How a call ends that shows the rows in a window of a stream.
use Rattle.std.proofs.Common.{◌≡◌, ℕ, ◌+◌, List, [], ◌++◌, Option, Result, Ok, Err, inl, inr, refl, sym, ap, ◌∙◌, subst, append_assoc, append-nil}
use Rattle.std.specs.Io.KnownBytes.{Appends}
use Rattle.std.proofs.KnownBytes.{Appends-trans}
use Rattle.arrow_types.specs.Limits.{LimitNumbers}
use Rattle.arrow_csv.specs.Layouts.{Form}
use Rattle.arrow_csv.specs.Named.{Choice}
use Rattle.arrow_sink.specs.Sinks.{AcceptsBeginning}
use Rattle.arrow_stream_reader.specs.Front.{Entry, Snapshot, FrontOf}
use Rattle.arrow_stream_reader.specs.Stream.{ReaderView}
use Rattle.arrow_stream_reader.specs.declared.fault.Fault.{Fault}
use Rattle.arrow_stream_reader.specs.declared.reader.Verdict.TheVariants.{Open}
use Rattle.arrowflow_text.specs.Chosen.{AreRows, choice_of, form_of}
use Rattle.arrowflow_input.specs.Through.{IsThrough}
use Rattle.arrowflow_text.specs.Windows.{HaveAll, IsEnoughOf, IsEnoughReported, AreBegun, IsPartCut, IsPartReported, IsShortAt, IsShortOf, ShowsWindow}
use Rattle.arrowflow_input.specs.Endings.{EndsBadly, EndsWell, SendsText}
use Rattle.arrowflow_text.specs.Reports.{IsEnding}
use Rattle.arrowflow_text.specs.declared.report.ReportKind.{ReportKind}
use Rattle.arrowflow_text.specs.declared.report.ReportKind.TheVariants.{Messages, Rows}
use Rattle.arrowflow_input.specs.declared.tool_fault.ToolFault.{ToolFault}
use Rattle.arrowflow_input.specs.declared.tool_fault.ToolFault.TheVariants.{Input, Output, Stream, Refused, Memory}
use Rattle.arrowflow_text.specs.declared.window.Window.{Window}
use Rattle.arrowflow_text.proofs.Windows.{not_there}
use Rattle.arrowflow_input.proofs.Driving.{snapshot_of}
use Rattle.arrowflow_input.proofs.Beginnings.{begun_all, begun_after}

-- nothing follows the rows
pub no_ending : (report : ReportKind) → AreRows report → (place : ℕ) (text : List ℕ) → IsEnding report place text → text ≡ []
no_ending (Rows layout) e place text is = is
no_ending Messages e place text is = absurd e

-- the reader has read all the bytes, and more rows are to be shown
module _ (w : Window) (report : ReportKind) (is_rows : AreRows report) (limits : LimitNumbers) (bytes : List ℕ) (left first : Option (List ℕ)) (start : ℕ) (held : Option (List ℕ)) (number failed : ℕ) (window : Option Window) (r : ReaderView)
    (same : r.limits ≡ limits) (count : failed ≡ start) (es : List Entry) (x : IsPartReported (form_of report) (choice_of report) w first held number window r bytes es) where
  abbrev e : Snapshot
  e = snapshot_of r x.position.rest

  front_at : FrontOf limits bytes es e
  front_at = subst (λ l. FrontOf l bytes es e) same x.position.front

  short_of : HaveAll w r.at.state.schema es → ⊥
  short_of = not_there w window x.position.front x.left_are

  written_by : (held' : Option (List ℕ)) → Appends first held' x.text → IsShortOf (form_of report) (choice_of report) w limits bytes e first held'
  written_by held' h = record {
    written = record { entries = es; front = front_at; has = x.has; text = x.text; is = x.is; wrote = h };
    short = short_of;
  }

  begun_by : (held' : Option (List ℕ)) → AcceptsBeginning first held' x.text → AreBegun (form_of report) (choice_of report) w limits bytes first held'
  begun_by held' h = record {
    taken = bytes;
    rest = [];
    whole = append-nil bytes;
    snapshot = e;
    entries = es;
    front = front_at;
    has = x.has;
    text = x.text;
    is = x.is;
    wrote = h;
  }

  -- the stream goes on, and more rows are to be shown
  pub first_open : r.at.verdict ≡ Open → IsShortAt w limits bytes
  first_open goes_on = record {
    open_at = record { entries = es; snapshot = e; front = front_at; goes_on = goes_on };
    short = short_of;
  }

  -- a read failed
  pub first_input : r.at.verdict ≡ Open → ShowsWindow (form_of report) (choice_of report) w limits bytes left first start (Err (Input 0)) held failed
  first_input goes_on = (refl, (e, goes_on, written_by held x.wrote), count)

  -- an allocation failed
  pub first_memory : ShowsWindow (form_of report) (choice_of report) w limits bytes left first start (Err Memory) held failed
  first_memory = (begun_by held (begun_all first held x.text x.wrote), count)

  -- the last flush
  pub flushed_by : (held' held'' : Option (List ℕ)) (failed' failed'' : ℕ) (answer : Result (Unit {0}) ToolFault) → Appends first held' x.text → EndsWell left e → failed' ≡ start → SendsText held' failed' [] answer held'' failed''
      → ShowsWindow (form_of report) (choice_of report) w limits bytes left first start answer held'' failed''
  flushed_by held' held'' failed' failed'' (Ok done) h well so sent =
      (inr (e, written_by held'' (subst (Appends first held'') (append-nil x.text) (Appends-trans first held' held'' x.text [] h sent.0)), well), sent.1 ∙ so)
  flushed_by held' held'' failed' failed'' (Err Output) h well so sent =
      (begun_by held'' (subst (AcceptsBeginning first held'') (append-nil x.text) (begun_after first held' held'' x.text [] h sent.0)), sent.1 ∙ ap (λ k. k + 1) so)
  flushed_by held' held'' failed' failed'' (Err Memory) h well so sent =
      (begun_by held'' (subst (AcceptsBeginning first held'') (append-nil x.text) (begun_after first held' held'' x.text [] h sent.0)), sent.1 ∙ so)
  flushed_by held' held'' failed' failed'' (Err (Input k)) h well so sent = absurd sent
  flushed_by held' held'' failed' failed'' (Err (Stream f)) h well so sent = absurd sent
  flushed_by held' held'' failed' failed'' (Err (Refused what kind)) h well so sent = absurd sent

  -- the stream ended badly
  pub first_badly : (fault : Fault) → EndsBadly left e fault → ShowsWindow (form_of report) (choice_of report) w limits bytes left first start (Err (Stream fault)) held failed
  first_badly fault badly = ((e, written_by held x.wrote, badly), count)

  -- the text after the last message was not written completely: nothing follows the rows
  pub ending_cut : (ending : List ℕ) → IsEnding report r.at.place ending → (held' : Option (List ℕ)) → AcceptsBeginning held held' ending → AreBegun (form_of report) (choice_of report) w limits bytes first held'
  ending_cut ending is held' h =
      let none = no_ending report is_rows r.at.place ending is in
      begun_by held' (subst (AcceptsBeginning first held') (ap (λ z. x.text ++ z) none ∙ append-nil x.text) (begun_after first held held' x.text ending x.wrote h))

  -- it was written
  pub ending_reported : (ending : List ℕ) → IsEnding report r.at.place ending → (held' : Option (List ℕ)) → Appends held held' ending → Appends first held' x.text
  ending_reported ending is held' h =
      let none = no_ending report is_rows r.at.place ending is in
      subst (Appends first held') (ap (λ z. x.text ++ z) none ∙ append-nil x.text) (Appends-trans first held held' x.text ending x.wrote h)

-- a report that ends inside a piece
module _ (form : Form) (choice : Choice) (w : Window) (limits : LimitNumbers) (bytes piece : List ℕ) (left first held : Option (List ℕ)) (start failed failed' : ℕ) (r : ReaderView) (same : r.limits ≡ limits) (count : failed ≡ start) where
  pub begun_so : (c : IsPartCut form choice w first held r bytes piece) → AreBegun form choice w limits (bytes ++ piece) first held
  begun_so c = record {
    taken = bytes ++ c.taken;
    rest = c.rest;
    whole = append_assoc bytes c.taken c.rest ∙ ap (λ y. bytes ++ y) c.whole;
    snapshot = snapshot_of r c.position.rest;
    entries = c.entries;
    front = subst (λ l. FrontOf l (bytes ++ c.taken) c.entries (snapshot_of r c.position.rest)) same c.position.front;
    has = c.has;
    text = c.text;
    is = c.is;
    wrote = c.wrote;
  }

  -- the rows were written, and nothing was sent after them
  enough_sent : IsEnoughReported form choice w first held r bytes piece → (held' : Option (List ℕ)) → Appends held held' [] → IsEnoughOf form choice w limits (bytes ++ piece) first held'
  enough_sent x held' sent = record {
    taken = bytes ++ x.taken;
    rest = x.rest;
    whole = append_assoc bytes x.taken x.rest ∙ ap (λ y. bytes ++ y) x.whole;
    snapshot = snapshot_of r x.position.rest;
    written = record {
      entries = x.entries;
      front = subst (λ l. FrontOf l (bytes ++ x.taken) x.entries (snapshot_of r x.position.rest)) same x.position.front;
      has = x.has;
      text = x.text;
      is = x.is;
      wrote = subst (Appends first held') (append-nil x.text) (Appends-trans first held held' x.text [] x.wrote sent);
    };
    there = x.there;
  }

  -- so no further row is to be shown, if the output was flushed
  pub first_enough_through : IsEnoughReported form choice w first held r bytes piece → (held' : Option (List ℕ)) (failed'' : ℕ) (answer : Result (Unit {0}) ToolFault) → SendsText held failed' [] answer held' failed''
      → IsThrough (IsEnoughOf form choice w limits (bytes ++ piece) first held') answer r (bytes ++ piece)
  first_enough_through x held' failed'' (Ok done) sent = inr (enough_sent x held' sent.0)
  first_enough_through x held' failed'' (Err Output) sent = tt
  first_enough_through x held' failed'' (Err Memory) sent = tt
  first_enough_through x held' failed'' (Err (Input k)) sent = absurd sent
  first_enough_through x held' failed'' (Err (Stream f)) sent = absurd sent
  first_enough_through x held' failed'' (Err (Refused what kind)) sent = absurd sent

  -- the rows were written, and the output was flushed
  pub first_enough_flushed : IsEnoughReported form choice w first held r bytes piece → failed' ≡ failed → (held' : Option (List ℕ)) (failed'' : ℕ) (answer : Result (Unit {0}) ToolFault) → SendsText held failed' [] answer held' failed''
      → ShowsWindow form choice w limits (bytes ++ piece) left first start answer held' failed''
  first_enough_flushed x so held' failed'' answer sent = by answer sent
    where
      front_at : FrontOf limits (bytes ++ x.taken) x.entries (snapshot_of r x.position.rest)
      front_at = subst (λ l. FrontOf l (bytes ++ x.taken) x.entries (snapshot_of r x.position.rest)) same x.position.front

      whole : (bytes ++ x.taken) ++ x.rest ≡ bytes ++ piece
      whole = append_assoc bytes x.taken x.rest ∙ ap (λ y. bytes ++ y) x.whole

      begun : AcceptsBeginning held held' [] → AreBegun form choice w limits (bytes ++ piece) first held'
      begun h = record {
        taken = bytes ++ x.taken;
        rest = x.rest;
        whole = whole;
        snapshot = snapshot_of r x.position.rest;
        entries = x.entries;
        front = front_at;
        has = x.has;
        text = x.text;
        is = x.is;
        wrote = subst (AcceptsBeginning first held') (append-nil x.text) (begun_after first held held' x.text [] x.wrote h);
      }

      by : (answer : Result (Unit {0}) ToolFault) → SendsText held failed' [] answer held' failed'' → ShowsWindow form choice w limits (bytes ++ piece) left first start answer held' failed''
      by (Ok done) sent = (inl (enough_sent x held' sent.0), sent.1 ∙ so ∙ count)
      by (Err Output) sent = (begun sent.0, sent.1 ∙ ap (λ k. k + 1) (so ∙ count))
      by (Err Memory) sent = (begun sent.0, sent.1 ∙ so ∙ count)
      by (Err (Input k)) sent = absurd sent
      by (Err (Stream f)) sent = absurd sent
      by (Err (Refused what kind)) sent = absurd sent

-- what was begun of a prefix of bytes was begun of all of them
pub first_longer : (form : Form) (choice : Choice) (w : Window) (limits : LimitNumbers) (taken rest bytes : List ℕ) (first held : Option (List ℕ)) → taken ++ rest ≡ bytes → AreBegun form choice w limits taken first held → AreBegun form choice w limits bytes first held
first_longer form choice w limits taken rest bytes first held whole begun = record {
  taken = begun.taken;
  rest = begun.rest ++ rest;
  whole = sym (append_assoc begun.taken begun.rest rest) ∙ ap (λ y. y ++ rest) begun.whole ∙ whole;
  snapshot = begun.snapshot;
  entries = begun.entries;
  front = begun.front;
  has = begun.has;
  text = begun.text;
  is = begun.is;
  wrote = begun.wrote;
}
