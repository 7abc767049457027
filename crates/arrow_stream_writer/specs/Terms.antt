-- What determines the frames that a writer builds.
use Rattle.std.specs.Prelude.{ℕ}
use Rattle.arrow_types.specs.Limits.{LimitNumbers}
use Rattle.arrow_types.specs.Notes.{SchemaShape}
use Rattle.arrow_body_writer.specs.Align.{alignment_of}
use Rattle.arrow_dict.specs.declared.update.Updates.{Updates}
use Rattle.arrow_stream_writer.specs.declared.settings.Settings.{Settings}

-- What determines the frames: the limits, the alignment, the schema, and how extended dictionaries are sent.
pub record Terms : Type 0 where
  pub limits : LimitNumbers
  pub align : ℕ
  pub shape : SchemaShape
  pub updates : Updates

-- the terms of a writer with these settings
abbrev pub terms_of : Settings → Terms
terms_of settings = record { limits = settings.limits; align = alignment_of settings.align; shape = settings.schema.value; updates = settings.updates }
