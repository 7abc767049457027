-- What appending a frame means (Columnar Format, "Encapsulated message format").
use Rattle.std.specs.Prelude.{◌≡◌, ◌≤◌, ℕ, false, List, ◌++◌, length}
use Rattle.arrow_types.specs.Limits.{LimitNumbers}
use Rattle.arrow_meta_reader.specs.Means.{PlainMessage}
use Rattle.arrow_meta_writer.specs.Writable.{leaves_header_out}
use Rattle.arrow_stream_laws.specs.Frames.{framed, IsFrameOf}
use Rattle.arrow_stream_laws.specs.Sizes.{header_size}

-- Just the frame of the message with this body was appended, its metadata padded with zero bytes so that with the
-- prefix they end at a multiple of the alignment: a frame for every reader whose limits it keeps to.
pub record AppendsFrame (align : ℕ) (m : PlainMessage) (body old new : List ℕ) : Type 0 where
  pub appended : new ≡ old ++ framed m (header_size align m.header) body
  pub is_frame : (limits : LimitNumbers) → header_size align m.header ≤ limits.max_metadata → length body ≤ limits.max_body → leaves_header_out limits.types m.header ≡ false →
      IsFrameOf limits (header_size align m.header) m.header body (framed m (header_size align m.header) body)

-- Just the head of the message's frame was appended, all of it but the body: followed by any body of the length that
-- the message gives, it is the frame of the message with this body.
abbrev pub AppendsHead : ℕ → PlainMessage → List ℕ → List ℕ → Type 0
AppendsHead align m old new = (body : List ℕ) → m.body_len ≡ length body → AppendsFrame align m body old (new ++ body)
