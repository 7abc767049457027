-- Metadata have one meaning, no message has a body over the limit, and the result of the layer below is the meaning.
use Rattle.std.proofs.Common.{◌≡◌, ℕ, ◌≤◌, List, ◌+◌, length, refl, sym, ap, ◌∙◌, subst, arith, inl, inr, Result, MatchResult, Ok, Err}
use Rattle.std.specs.Prelude.{is_some}
use Rattle.arrow_types.specs.Limits.{LimitNumbers}
use Rattle.arrow_meta_tree.specs.declared.fault.MetaFault.{MetaFault}
use Rattle.arrow_meta_tree.specs.declared.fault.MetaFault.TheVariants as faults
use Rattle.arrow_meta_reader.specs.Judges.{Decodes, MetadataMeans}
use Rattle.arrow_meta_reader.specs.declared.message.Message.{Message as Judged}
use Rattle.arrow_meta_reader.specs.Means.{PlainMessage, message_view}
use Rattle.arrow_meta_reader.proofs.Least.{meaning_length}
use Rattle.arrow_meta_reader.proofs.OneAnswer.{never_both, one_fault, one_message}
use Rattle.arrow_stream_reader.specs.Message.{Message}
use Rattle.arrow_stream_reader.specs.declared.message.Message.{Message as PendingBytes}
use Rattle.arrow_stream_reader.specs.declared.decode_error.DecodeError.{DecodeError}
use Rattle.arrow_stream_reader.specs.declared.decode_error.DecodeError.TheVariants.{Refused, Memory}
use Rattle.arrow_stream_reader.specs.Views.{Placed, StopsBy, MessageRead}
use Rattle.arrow_stream_reader.specs.Meaning.{Means, announced}
use Rattle.arrow_stream_reader.specs.State.{StreamState}

-- metadata have one meaning
pub one_meaning : (l : LimitNumbers) (b : List ℕ) (r q : Result Message MetaFault) → Means l b r → Means l b q → r ≡ q
one_meaning l b (Ok m) (Ok n) h k = ap Ok (h.2 ∙ ap announced (one_message l b h.0 k.0 h.1 k.1) ∙ sym k.2)
one_meaning l b (Ok m) (Err f) h k = absurd (never_both l b h.0 f h.1 k)
one_meaning l b (Err f) (Ok m) h k = absurd (never_both l b k.0 f k.1 h)
one_meaning l b (Err f) (Err g) h k = ap Err (one_fault l b f g h k)

-- the body of a message that metadata mean is within the limit
pub meaning_small : (l : LimitNumbers) (b : List ℕ) (m : Message) → Means l b (Ok m) → m.body_len ≤ l.max_body
meaning_small l b m h =
    let same = ap (λ (u : Message). u.body_len) h.2 in
    omega (arith, same, meaning_length l.max_body h.1.0 h.0 h.1.2)

-- a message that the layer below returns is the meaning
pub decoded_means : (l : LimitNumbers) (b : List ℕ) (m : PlainMessage) → MetadataMeans l b m → Means l b (Ok (announced m))
decoded_means l b m h = (m, h, refl)

-- so is a fault, except `Memory`
pub decoded_fault : (l : LimitNumbers) (b : List ℕ) (f : MetaFault) → (f ≡ faults.Memory → ⊥) → Decodes (Err f) l b → Means l b (Err f)
decoded_fault l b faults.Metadata n h = h
decoded_fault l b faults.Version n h = h
decoded_fault l b faults.Header n h = h
decoded_fault l b faults.BodyLength n h = h
decoded_fault l b (faults.Unsupported k) n h = h
decoded_fault l b (faults.Schema k) n h = h
decoded_fault l b (faults.Compressed j k) n h = h
decoded_fault l b faults.Memory n h = absurd (n refl)

-- the result of reading metadata with a fault
pub fault_is_read : (l : LimitNumbers) (s : StreamState) (start : ℕ) (b : List ℕ) (f : MetaFault) (stop : DecodeError) →
    Decodes (Err f) l b → StopsBy stop (is_some s.schema) (start + length b) f → MessageRead l s start b (Err stop)
fault_is_read l s start b f Memory d h = inl (subst (λ x. Decodes (Err x) l b) h d)
fault_is_read l s start b f (Refused k) d h = record { meant = Err f; means = decoded_fault l b f h.0 d; says = ap Err h.1 }

-- the same, if the fault implies the reason for stopping
pub fault_stops : (l : LimitNumbers) (s : StreamState) (start : ℕ) (b : List ℕ) (Stops : MetaFault → Type 0) (d : Result Judged MetaFault) (stop : DecodeError) →
    Decodes d l b → MatchResult d (λ m. ◌≡◌ {A = Result Judged DecodeError} (Err stop) (Ok m)) Stops →
    ((f : MetaFault) → Stops f → StopsBy stop (is_some s.schema) (start + length b) f) → MessageRead l s start b (Err stop)
fault_stops l s start b Stops (Ok m) stop d h by = absurd (cc)
fault_stops l s start b Stops (Err f) stop d h by = fault_is_read l s start b f stop d (by f h)

-- a message that is returned is the meaning
pub message_meant : (l : LimitNumbers) (b : List ℕ) (Stops : MetaFault → Type 0) (d : Result Judged MetaFault) (m : Judged) →
    Decodes d l b → MatchResult d (λ u. ◌≡◌ {A = Result Judged DecodeError} (Ok m) (Ok u)) Stops → ((f : MetaFault) → Stops f → ⊥) → MetadataMeans l b (message_view m)
message_meant l b Stops (Ok u) m d h never = let same : u ≡ m = cc in subst (λ x. MetadataMeans l b (message_view x)) same d
message_meant l b Stops (Err f) m d h never = absurd (never f h)

-- the result of reading metadata that mean a message
pub message_is_read : (l : LimitNumbers) (s : StreamState) (start : ℕ) (b : List ℕ) (m : PlainMessage) (r : Result PendingBytes DecodeError) →
    MetadataMeans l b m → Placed l.max_rows s (start + length b) m r → MessageRead l s start b r
message_is_read l s start b m (Ok t) h p = record { meant = Ok (announced m); means = decoded_means l b m h; says = p }
message_is_read l s start b m (Err (Refused k)) h p = record { meant = Ok (announced m); means = decoded_means l b m h; says = p }
message_is_read l s start b m (Err Memory) h p = inr (announced m, record { meant = Ok (announced m); means = decoded_means l b m h; says = sym p })
