-- What is put into the caller's output buffer, and how the call ends.
use Rattle.std.specs.Prelude.{◌≡◌, ◌⊎◌, ℕ, min, List, [], ◌++◌, length, take, drop, Option, Some, Result, Ok, Err, string_bytes}
use Rattle.std.specs.declared.string.String.{String}
use Rattle.std.specs.declared.alloc.Global.{Global}
use Rattle.arrow_types.specs.Limits.{LimitNumbers}
use Rattle.arrow_stream_laws.specs.Sizes.{Options}
use Rattle.arrowflow_input.specs.declared.tool_fault.ToolFault.{ToolFault}
use Rattle.arrowflow_text.specs.Calls.{ShowsInput, ReportsWholeInput}
use Rattle.arrowflow_text.specs.SchemaCall.{AnswersInput}
use Rattle.arrowflow_copy.specs.Copy.{CopiesInput}
use Rattle.arrowflow_calls.specs.declared.terms.LimitsC.{LimitsC}
use Rattle.arrowflow_calls.specs.declared.texts.TextC.{TextC}
use Rattle.arrowflow_calls.specs.Kinds.{bad_limits, kind_of, place_of}
use Rattle.arrowflow_calls.specs.Terms.{AreLimits}

-- the output buffer after a text was put into it: as much of its beginning as fits, then the bytes that were there
abbrev pub filled : List ℕ → List ℕ → List ℕ
filled room text = let size = min (length text) (length room) in take size text ++ drop size room

-- an empty text, with only this kind
abbrev pub bare_text : ℕ → TextC
bare_text kind = record { kind = kind; place = 0; size = 0 }

-- what is reported of a call that ended like this and gave a text of this size
abbrev pub text_reported : Result (Unit {0}) ToolFault → ℕ → TextC
text_reported (Ok done) size = record { kind = 0; place = 0; size = size }
text_reported (Err fault) size = record { kind = kind_of fault; place = place_of fault; size = size }

-- what a call does with a stream: how it ends, and the text that it gives
abbrev pub Call : Type 1
Call = Result (Unit {0}) ToolFault → List ℕ → Type 0

-- a text that the call gives was put into the output buffer, and how the call ended was reported
pub record IsPut (call : Call) (old : List ℕ) (stated : TextC) (new : List ℕ) : Type 0 where
  pub answer : Result (Unit {0}) ToolFault
  pub text : List ℕ
  pub gave : call answer text
  pub is_reported : stated ≡ text_reported answer (length text)
  pub room : new ≡ filled old text

-- The same; or limits are above their ceilings or no such types exist: this is reported, and the output is unchanged.
abbrev pub Gives : LimitsC → Call → List ℕ → TextC → List ℕ → Type 0
Gives limits call old stated new =
    (AreLimits limits × IsPut call old stated new)
    ⊎ ((AreLimits limits → ⊥) × (stated ≡ bare_text bad_limits) × (new ≡ old))

-- these bytes were copied with these options into memory, which gave this text
abbrev pub IsCopied : LimitNumbers → Options → List ℕ → Call
IsCopied limits o bytes answer text =
    (left : Option (List ℕ)) × ((failed : ℕ) × CopiesInput limits o (Some bytes) left (Some []) 0 answer (Some text) failed)

-- the rows of these bytes were printed into memory, which gave this text
abbrev pub IsShown : LimitNumbers → List ℕ → Call
IsShown limits bytes answer text =
    (left : Option (List ℕ)) × ((failed : ℕ) × ShowsInput limits (Some bytes) left (Some []) 0 answer (Some text) failed)

-- their messages were reported into memory, one line for each, which gave this text
abbrev pub IsReported : LimitNumbers → List ℕ → Call
IsReported limits bytes answer text =
    (left : Option (List ℕ)) × ((failed : ℕ) × ReportsWholeInput limits (Some bytes) left (Some []) 0 answer (Some text) failed)

-- the schema of these bytes was reported, which gave this text, an empty one if there is a fault
abbrev pub IsSchemaReported : LimitNumbers → List ℕ → Call
IsSchemaReported limits bytes (Ok done) text =
    (left : Option (List ℕ)) × ((given : String Global) × AnswersInput limits (Some bytes) left (Ok given) × (text ≡ string_bytes given))
IsSchemaReported limits bytes (Err fault) text = (left : Option (List ℕ)) × AnswersInput limits (Some bytes) left (Err fault) × (text ≡ [])
