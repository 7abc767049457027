-- The state of a copy whose output gave away the first bytes that it held.
use Rattle.std.specs.Prelude.{ℕ, List, Option}
use Rattle.std.specs.Io.KnownBytes.{prepend_known}
use Rattle.arrow_stream_laws.specs.Writer.{WriterView}
use Rattle.arrowflow_copy.specs.Copying.{At, waiting, writing}

-- its output holds these bytes now
abbrev pub holding : Option (List ℕ) → At → At
holding held (waiting before failed) = waiting held failed
holding held (writing w) = writing (record w { contents = held })

-- a writer whose sink held these bytes too, before all others
abbrev pub writer_with : List ℕ → WriterView → WriterView
writer_with gone w = record w { contents = prepend_known gone w.contents }

-- the state of the copy if it held these bytes too
abbrev pub with_taken : List ℕ → At → At
with_taken gone (waiting held failed) = waiting (prepend_known gone held) failed
with_taken gone (writing w) = writing (writer_with gone w)
