-- The number of bytes to which buffers are padded.
use Rattle.std.specs.Prelude.{ℕ}
use Rattle.arrow_body_writer.specs.declared.align.Align.{Align}
use Rattle.arrow_body_writer.specs.declared.align.Align.TheVariants.{Eight, SixtyFour}

-- the number of bytes (Columnar Format, "Buffer Alignment and Padding")
abbrev pub alignment_of : Align → ℕ
alignment_of Eight = 8
alignment_of SixtyFour = 64
