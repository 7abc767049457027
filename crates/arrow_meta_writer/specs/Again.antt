-- The result that a reader returns for the written bytes of a message.
use Rattle.std.specs.Prelude.{◌≡◌, Result, Ok, Err}
use Rattle.arrow_meta_tree.specs.declared.fault.MetaFault.{MetaFault}
use Rattle.arrow_meta_tree.specs.declared.fault.MetaFault.TheVariants.{Memory}
use Rattle.arrow_meta_reader.specs.declared.message.Message.{Message}
use Rattle.arrow_meta_reader.specs.Means.{PlainMessage, message_view}

-- The result is the message, or an allocation failed.
abbrev pub IsAgain : Result Message MetaFault → PlainMessage → Type 0
IsAgain (Ok k) m = message_view k ≡ m
IsAgain (Err fault) m = fault ≡ Memory
