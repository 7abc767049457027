-- The output of a copy is a function of its input (Columnar Format, "IPC Streaming Format").
use Rattle.std.specs.Prelude.{◌≡◌, ℕ, true, List, map, Option, Some, Ok}
use Rattle.std.specs.Io.KnownBytes.{Appends}
use Rattle.arrow_types.specs.Limits.{LimitNumbers}
use Rattle.arrow_types.specs.Notes.{SchemaShape}
use Rattle.arrow_stream_reader.specs.Front.{Entry, Snapshot, FrontOf}
use Rattle.arrow_stream_reader.specs.Tables.{tables_of}
use Rattle.arrow_stream_laws.specs.Sent.{content_of, sent_of}
use Rattle.arrow_stream_laws.specs.Sizes.{Options}
use Rattle.arrow_stream_laws.specs.Text.{joined}
use Rattle.arrowflow_copy.specs.Copy.{Copies}

-- A law: after `Ok` exactly the bytes that are sent for the schema and the content of the batches were appended to
-- the output.
abbrev pub CopyIsSent : Type 0
CopyIsSent =
    (limits : LimitNumbers) (o : Options) (bytes : List ℕ) (left before after : Option (List ℕ)) (failed now : ℕ) (es : List Entry) (e : Snapshot) (shape : SchemaShape) →
    FrontOf limits bytes es e → e.state.schema ≡ Some shape → Copies limits o bytes left before failed (Ok tt) after now →
    Appends before after (joined (sent_of o shape true (map content_of (tables_of es))))

-- A law: two streams with one schema, whose batches hold the same raw values, rows and dictionaries, are copied to
-- equal bytes, wherever their own bytes differ and whatever the limits.
abbrev pub CopiesAreEqual : Type 0
CopiesAreEqual =
    (limits limits' : LimitNumbers) (o : Options) (bytes bytes' : List ℕ) (left left' : Option (List ℕ)) (before : List ℕ) (after after' : Option (List ℕ)) (failed failed' now now' : ℕ)
    (es fs : List Entry) (e f : Snapshot) →
    FrontOf limits bytes es e → FrontOf limits' bytes' fs f →
    e.state.schema ≡ f.state.schema → map content_of (tables_of es) ≡ map content_of (tables_of fs) →
    Copies limits o bytes left (Some before) failed (Ok tt) after now → Copies limits' o bytes' left' (Some before) failed' (Ok tt) after' now' →
    after ≡ after'
