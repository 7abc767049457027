-- What the metadata of a message announce (Message.fbs, table "Message").
use Rattle.std.specs.Prelude.{ℕ}
use Rattle.arrow_meta_reader.specs.Means.{PlainHeader}

-- a message: its content, and the number of bytes of the body after its metadata
pub record Message : Type 0 where
  pub content : PlainHeader
  pub body_len : ℕ
