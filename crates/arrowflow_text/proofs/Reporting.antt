-- How a stream ends that was reported piece by piece.
use Rattle.std.proofs.Common.{◌≡◌, ℕ, ◌+◌, List, [], ◌++◌, Option, Result, Ok, Err, ◌⊎◌, inl, inr, refl, sym, ap, ◌∙◌, subst, append_assoc, append-nil}
use Rattle.std.specs.Io.KnownBytes.{Appends}
use Rattle.std.proofs.KnownBytes.{Appends-trans}
use Rattle.arrow_types.specs.Limits.{LimitNumbers}
use Rattle.arrow_sink.specs.Sinks.{AcceptsBeginning}
use Rattle.arrow_stream_reader.specs.Front.{Entry, Snapshot, FrontOf}
use Rattle.arrow_stream_reader.specs.Stream.{ReaderView, IsReaderAt}
use Rattle.arrow_stream_reader.specs.declared.reader.Verdict.{Verdict}
use Rattle.arrow_stream_reader.specs.declared.reader.Verdict.TheVariants.{Open, Done, Bad}
use Rattle.arrowflow_input.specs.Endings.{IsOpenAt, SendsText, EndsWell}
use Rattle.arrowflow_text.specs.Reports.{IsEnding, IsLast, IsReported, IsCutOff, IsWritten, IsWrittenWhole, IsBegun, Reports}
use Rattle.arrowflow_text.specs.declared.report.ReportKind.{ReportKind}
use Rattle.arrowflow_input.specs.declared.tool_fault.ToolFault.{ToolFault}
use Rattle.arrowflow_input.specs.declared.tool_fault.ToolFault.TheVariants.{Input, Output, Stream, Refused, Memory}
use Rattle.arrowflow_input.proofs.Driving.{snapshot_of}
use Rattle.arrowflow_input.proofs.Beginnings.{begun_after}

-- a stream goes on at the bytes that an open reader has read
pub open_at : (limits : LimitNumbers) (bytes : List ℕ) (r : ReaderView) (es : List Entry) → IsReaderAt r bytes es → r.limits ≡ limits → r.at.verdict ≡ Open → IsOpenAt limits bytes
open_at limits bytes r es at same o = record {
  entries = es;
  snapshot = snapshot_of r at.rest;
  front = subst (λ l. FrontOf l bytes es (snapshot_of r at.rest)) same at.front;
  goes_on = o;
}

module _ (report : ReportKind) (limits : LimitNumbers) (bytes : List ℕ) (left first : Option (List ℕ)) (start : ℕ) where
  -- what remains of a text that was reported
  abbrev pub written : (held : Option (List ℕ)) (number : ℕ) (r : ReaderView) (es : List Entry) (same : r.limits ≡ limits) (x : IsReported report first held number r bytes es)
      → IsWritten report limits bytes (snapshot_of r x.position.rest) first held
  written held number r es same x = record {
    entries = es;
    front = subst (λ l. FrontOf l bytes es (snapshot_of r x.position.rest)) same x.position.front;
    text = x.text;
    is = x.is;
    wrote = x.wrote;
  }

  -- the written text is continued by the text that follows the messages, or by a prefix of it
  pub more_written : (e : Snapshot) (held held' : Option (List ℕ)) (last : List ℕ) (w : IsWritten report limits bytes e first held) → IsLast report e.verdict e.place last → Appends held held' last → IsWrittenWhole report limits bytes e first held'
  more_written e held held' last w is h =
      record { entries = w.entries; front = w.front; text = w.text; is = w.is; last = last; is_last = is; wrote = Appends-trans first held held' w.text last w.wrote h }

  pub more_begun : (e : Snapshot) (held held' : Option (List ℕ)) (last : List ℕ) (w : IsWritten report limits bytes e first held) → IsEnding report e.place last → AcceptsBeginning held held' last → IsBegun report limits bytes first held'
  more_begun e held held' last w is h = record {
    taken = bytes;
    rest = [];
    whole = append-nil bytes;
    snapshot = e;
    entries = w.entries;
    front = w.front;
    text = w.text;
    is = w.is;
    last = last;
    is_last = inr (refl, is);
    wrote = begun_after first held held' w.text last w.wrote h;
  }

  -- the last text is empty, or it reports the end of the input, of which nothing is left
  may_position : (v : Verdict) (place : ℕ) (last rest : List ℕ) → rest ≡ [] → IsLast report v place last → (last ≡ []) ⊎ ((rest ≡ []) × IsEnding report place last)
  may_position Done place last rest none h = inl h
  may_position Open place last rest none h = inr (none, h)
  may_position (Bad kind) place last rest none h = absurd h

  -- the last flush
  pub flushed : (e : Snapshot) (held held' : Option (List ℕ)) (failed failed' : ℕ) (answer : Result (Unit {0}) ToolFault) → IsWrittenWhole report limits bytes e first held → EndsWell left e → failed ≡ start
      → SendsText held failed [] answer held' failed' → Reports report limits bytes left first start answer held' failed'
  flushed e held held' failed failed' answer w well count sent = by answer sent
    where
      all : (w.text ++ w.last) ++ [] ≡ w.text ++ w.last
      all = append-nil (w.text ++ w.last)

      begun : AcceptsBeginning held held' [] → IsBegun report limits bytes first held'
      begun h = record {
        taken = bytes;
        rest = [];
        whole = append-nil bytes;
        snapshot = e;
        entries = w.entries;
        front = w.front;
        text = w.text;
        is = w.is;
        last = w.last;
        is_last = may_position e.verdict e.place w.last [] refl w.is_last;
        wrote = subst (AcceptsBeginning first held') all (begun_after first held held' (w.text ++ w.last) [] w.wrote h);
      }

      by : (answer : Result (Unit {0}) ToolFault) → SendsText held failed [] answer held' failed' → Reports report limits bytes left first start answer held' failed'
      by (Ok done) sent = (
        e,
        record {
          entries = w.entries;
          front = w.front;
          text = w.text;
          is = w.is;
          last = w.last;
          is_last = w.is_last;
          wrote = subst (Appends first held') all (Appends-trans first held held' (w.text ++ w.last) [] w.wrote sent.0);
        },
        well,
        sent.1 ∙ count,
      )
      by (Err Output) sent = (begun sent.0, sent.1 ∙ ap (λ n. n + 1) count)
      by (Err Memory) sent = (begun sent.0, sent.1 ∙ count)
      by (Err (Input n)) sent = absurd sent
      by (Err (Refused what kind)) sent = absurd sent
      by (Err (Stream f)) sent = absurd sent

-- a report that ends inside a piece was begun
pub cut_begun : (report : ReportKind) (limits : LimitNumbers) (bytes piece : List ℕ) (first held : Option (List ℕ)) (r : ReaderView) → r.limits ≡ limits → IsCutOff report first held r bytes piece → IsBegun report limits (bytes ++ piece) first held
cut_begun report limits bytes piece first held r same c = record {
  taken = bytes ++ c.taken;
  rest = c.rest;
  whole = append_assoc bytes c.taken c.rest ∙ ap (λ y. bytes ++ y) c.whole;
  snapshot = snapshot_of r c.position.rest;
  entries = c.entries;
  front = subst (λ l. FrontOf l (bytes ++ c.taken) c.entries (snapshot_of r c.position.rest)) same c.position.front;
  text = c.text;
  is = c.is;
  last = [];
  is_last = inl refl;
  wrote = subst (AcceptsBeginning first held) (sym (append-nil c.text)) c.wrote;
}
