-- The batches of a stream, kept as they come.
use Rattle.std.proofs.Common.{◌≡◌, ℕ, List, ◌∷◌, [], ◌++◌, take, drop, None, Result, Ok, Err, inl, inr, sym, ap, ◌∙◌, append_assoc, append-nil, take-append-drop}
use Rattle.arrow_types.specs.Limits.{LimitNumbers}
use Rattle.arrow_data.specs.Batch.{Table}
use Rattle.arrow_stream_reader.specs.declared.item.Item.{Item}
use Rattle.arrow_stream_reader.specs.Front.{Entry}
use Rattle.arrow_stream_reader.specs.State.{StreamState}
use Rattle.arrow_stream_reader.specs.Stream.{ReaderView}
use Rattle.arrow_stream_reader.specs.Tables.{table_in, tables_of}
use Rattle.arrow_stream_reader.specs.Views.{given}
use Rattle.arrowflow_input.specs.Consumer.{Comes, entry_of}
use Rattle.arrowflow_input.specs.Driver.{AreGiven, PieceTaken}
use Rattle.arrowflow_input.specs.Kept.{HasKept}
use Rattle.arrowflow_input.specs.Pieces.{HandsOut}
use Rattle.arrowflow_input.specs.Session.{IsReaderInside}
use Rattle.arrowflow_input.specs.declared.driver.Progress.{Progress}
use Rattle.arrowflow_input.specs.declared.driver.Progress.TheVariants.{GoesOn, Marker, Stopped}
use Rattle.arrowflow_input.specs.declared.tool_fault.ToolFault.{ToolFault}
use Rattle.arrowflow_input.specs.declared.tool_fault.ToolFault.TheVariants.{Memory}
use Rattle.arrowflow_input.proofs.Feeding.{tables-append}

-- what a list of batches keeps true
abbrev pub keeping : List Table → LimitNumbers → StreamState → List Entry → Type 0
keeping batches limits state entries = batches ≡ tables_of entries

-- one more message adds its batch, if it has one
pub kept_more : (batches : List Table) (es : List Entry) (item : Item) (t : List ℕ) (n : ℕ) → batches ≡ tables_of es → batches ++ table_in (given item) ≡ tables_of (es ++ entry_of item t n ∷ [])
kept_more batches es item t n are =
    ap (λ y. y ++ table_in (given item)) are ∙ sym (tables-append es (entry_of item t n ∷ []) ∙ ap (λ y. tables_of es ++ y) (append-nil (table_in (given item))))

-- after a message that was not kept the reader has read a prefix of the bytes
pub inside_message : (place : ℕ) (item : Item) (old new : ReaderView) (t : List ℕ) (es : List Entry) (piece : List ℕ) (n : ℕ) → Comes place item old new t es piece n → IsReaderInside (t ++ piece) new
inside_message place item old new t es piece n comes = record {
  taken = t ++ take n piece;
  rest = drop n piece;
  whole = append_assoc t (take n piece) (drop n piece) ∙ ap (λ y. t ++ y) (take-append-drop n piece);
  position = (es ++ entry_of item t n ∷ [], comes.gives.position);
}

abbrev fault_in : Result Progress ToolFault → ToolFault
fault_in (Ok progress) = Memory
fault_in (Err fault) = fault

module _ (batches : List Table) (bytes : List ℕ) (r : ReaderView) where
  -- batches that were kept are returned
  pub given_out : AreGiven (keeping batches) bytes r → HandsOut bytes batches r
  given_out g = record { entries = g.entries; position = g.position; tables = g.kept }

  -- and the batches that were returned were given
  pub out_given : HandsOut bytes batches r → AreGiven (keeping batches) bytes r
  out_given h = record { entries = h.entries; position = h.position; kept = h.tables }

  -- they are returned with a piece, unless an allocation failed
  pub piece_kept : (answer : Result Progress ToolFault) → PieceTaken (keeping batches) (HasKept batches) bytes r answer → (answer ≡ Err Memory → ⊥) → HandsOut bytes batches r
  piece_kept (Ok GoesOn) taken other = given_out taken
  piece_kept (Ok Marker) taken other = given_out taken.0
  piece_kept (Ok Stopped) taken other = let all = taken None in record { entries = all.entries; position = all.position; tables = all.are }
  piece_kept (Err fault) (inl answered) other = absurd (other (ap Err (answered None).0))
  piece_kept (Err fault) (inr (inl refused)) other = given_out refused.given
  piece_kept (Err fault) (inr (inr wants)) other = absurd (other (ap Err wants.is_memory))

  -- if one did, the reader has read a prefix of the bytes
  pub piece_inside : (answer : Result Progress ToolFault) → PieceTaken (keeping batches) (HasKept batches) bytes r answer → answer ≡ Err Memory → IsReaderInside bytes r
  piece_inside (Ok progress) taken is = absurd (cc)
  piece_inside (Err fault) (inl answered) is = (answered None).1
  piece_inside (Err fault) (inr (inl refused)) is = let q = sym (ap fault_in is) ∙ refused.reported in absurd (cc)
  piece_inside (Err fault) (inr (inr wants)) is = record { taken = wants.taken; rest = wants.rest; whole = wants.whole; position = (wants.given.entries, wants.given.position) }
