-- The view of a reader's fields.
use Rattle.arrow_stream_reader.specs.declared.reader.StreamReader.TheInside.{Inside}
use Rattle.std.specs.Prelude.{◌≡◌, []}
use Rattle.arrow_stream_reader.specs.declared.reader.Verdict.TheVariants.{Open}
use Rattle.arrow_stream_reader.specs.Frame.{waits}
use Rattle.arrow_stream_reader.specs.Views.{plain}
use Rattle.arrow_stream_reader.specs.Decoder.{IsAt, FirstAt, verdict_of}
use Rattle.arrow_stream_reader.specs.Stream.{ReaderView}

-- the view of a reader with these fields
abbrev pub shows : Inside → ReaderView
shows a = record {
  limits = a.decoder.limits;
  at = record { state = plain a.decoder.state; place = a.decoder.place; rest = a.decoder.held.items; verdict = verdict_of a.decoder.phase };
}

-- The decoder of an open reader is where its phase says, and waits for bytes; that of another reader holds no bytes.
pub record IsReading (a : Inside) : Type 0 where
  pub at : verdict_of a.decoder.phase ≡ Open → IsAt a.decoder
  pub waiting : verdict_of a.decoder.phase ≡ Open → FirstAt a.decoder a.decoder.held.items waits
  pub empty : (verdict_of a.decoder.phase ≡ Open → ⊥) → a.decoder.held.items ≡ []
