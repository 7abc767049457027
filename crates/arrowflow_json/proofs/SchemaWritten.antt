-- What is written for the first message of a stream, and why nothing is.
use Rattle.std.proofs.Common.{◌≡◌, ℕ, List, Option, Some, Result, Ok, Err, IfErr, IfOk, Vec, refl, sym, subst}
use Rattle.std.proofs.KnownBytes.{Appends-nil}
use Rattle.std.specs.declared.alloc.Global.{Global}
use Rattle.arrow_types.specs.Limits.{LimitNumbers}
use Rattle.arrow_types.specs.Notes.{SchemaShape}
use Rattle.arrow_stream_reader.specs.Stream.{ReaderView}
use Rattle.arrowflow_input.specs.Blame.{BlamesOnly}
use Rattle.arrowflow_text.specs.SchemaCall.{Answers, BeginWithSchema}
use Rattle.arrowflow_input.specs.declared.tool_fault.ToolFault.{ToolFault}
use Rattle.arrowflow_input.specs.declared.tool_fault.ToolFault.TheVariants.{Input, Output, Stream, Refused, Memory}
use Rattle.arrowflow_json.specs.Fields.{schema_lines}
use Rattle.arrowflow_json.specs.SchemaLines.{AnswersLines, BeginWithLines, HasLines, HasSchema, SendsAll, WritesSchema, WritesSchemaOf}

-- without a schema nothing is written
unwritten : (file : Option (List ℕ)) (limits : LimitNumbers) (bytes : List ℕ) (left held : Option (List ℕ)) (failed : ℕ) (fault : ToolFault) → Answers limits bytes left (Err fault) → WritesSchema file limits bytes left held failed (Err fault) held failed
unwritten file limits bytes left held failed (Stream fault) a = (a, Appends-nil held, refl)
unwritten file limits bytes left held failed (Input number) a = (a.0, a.1, Appends-nil held, refl)
unwritten file limits bytes left held failed Output a = absurd a
unwritten file limits bytes left held failed Memory a = (Appends-nil held, refl)
unwritten file limits bytes left held failed (Refused what kind) a = absurd a

-- the same for an input
pub nothing_sent : (file : Option (List ℕ)) (limits : LimitNumbers) (had left held : Option (List ℕ)) (failed : ℕ) (fault : ToolFault) → AnswersLines file limits had left (Err fault) → WritesSchemaOf file limits had left held failed (Err fault) held failed
nothing_sent file limits had left held failed fault (bytes, consumes, read, answers) = (bytes, consumes, read, unwritten file limits bytes left held failed fault answers)

sent : (file : Option (List ℕ)) (limits : LimitNumbers) (bytes text : List ℕ) (left before after : Option (List ℕ)) (failed failed' : ℕ) (answer : Result (Unit {0}) ToolFault) → BeginWithLines file limits bytes text → SendsAll before failed text answer after failed'
    → WritesSchema file limits bytes left before failed answer after failed'
sent file limits bytes text left before after failed failed' (Ok done) begins s = (text, begins, s.0, s.1)
sent file limits bytes text left before after failed failed' (Err Output) begins s = (text, begins, s.0, s.1)
sent file limits bytes text left before after failed failed' (Err Memory) begins s = absurd s
sent file limits bytes text left before after failed failed' (Err (Input number)) begins s = absurd s
sent file limits bytes text left before after failed failed' (Err (Stream fault)) begins s = absurd s
sent file limits bytes text left before after failed failed' (Err (Refused what kind)) begins s = absurd s

-- the lines of a schema were sent
pub lines_sent : (file : Option (List ℕ)) (limits : LimitNumbers) (had left before after : Option (List ℕ)) (failed failed' : ℕ) (text : Vec ℕ Global) (own : List ℕ) (answer : Result (Unit {0}) ToolFault) → AnswersLines file limits had left (Ok text) → own ≡ text.items
    → SendsAll before failed own answer after failed' → WritesSchemaOf file limits had left before failed answer after failed'
lines_sent file limits had left before after failed failed' text own answer (bytes, consumes, read, begins) same s =
    (bytes, consumes, read, sent file limits bytes text.items left before after failed failed' answer begins (subst (λ t. SendsAll before failed t answer after failed') same s))

-- the lines of the schema that was read, or a failed allocation
pub lines_read : (file : Option (List ℕ)) (limits : LimitNumbers) (bytes : List ℕ) (left : Option (List ℕ)) (r : ReaderView) → r.limits ≡ limits → HasSchema (Ok tt) r bytes left → (result : Result (Vec ℕ Global) ToolFault)
    → IfOk result (λ text. (shape : SchemaShape) → r.at.state.schema ≡ Some shape → text.items ≡ schema_lines file shape) → IfErr result (λ fault. fault ≡ Memory) → HasLines file limits bytes left result
lines_read file limits bytes left r same found (Ok text) lines memory = record { shape = found.0; begins = subst (λ l. BeginWithSchema l bytes found.0) same found.1; lines = lines found.0 found.2 }
lines_read file limits bytes left r same found (Err fault) lines memory = subst (λ f. Answers limits bytes left (Err f)) (sym memory) tt

-- a failed allocation blames no input
pub memory_blames : (P : Type 0) (result : Result (Vec ℕ Global) ToolFault) → IfErr result (λ fault. fault ≡ Memory) → IfErr result (BlamesOnly P)
memory_blames P (Ok text) memory = tt
memory_blames P (Err fault) memory = subst (BlamesOnly P) (sym memory) tt
