-- How a reader that is given piece after piece advances in its stream.
use Rattle.std.proofs.Common.{◌≡◌, ℕ, List, [], ◌∷◌, ◌++◌, take, drop, Result, Ok, Err, refl, sym, ap, ◌∙◌, subst, arith, append_assoc, append-nil, Bool}
use Rattle.std.specs.Prelude.{OnErr}
use Rattle.std.proofs.lemmas.List.{take_all, take-append-drop}
use Rattle.arrow_types.specs.Limits.{LimitNumbers}
use Rattle.arrow_data.specs.Batch.{Table}
use Rattle.arrow_stream_reader.specs.declared.reader.Verdict.{Verdict}
use Rattle.arrow_stream_reader.specs.declared.reader.Verdict.TheVariants.{Open, Done, Bad}
use Rattle.arrow_stream_reader.specs.Front.{Entry}
use Rattle.arrow_stream_reader.specs.Stream.{ReaderView, IsReaderAt, TakesOn, ended_by}
use Rattle.arrow_stream_reader.proofs.Streams.{ended_position}
use Rattle.arrowflow_input.specs.Pieces.{Feeds, FeedsInside, HandsOut}
use Rattle.arrow_stream_reader.specs.Tables.{table_in, tables_of}
use Rattle.arrowflow_input.specs.Session.{IsReaderInside}

-- the batches of two appended lists of messages are those of the first, then those of the second
pub tables-append : (es fs : List Entry) → tables_of (es ++ fs) ≡ tables_of es ++ tables_of fs
tables-append [] fs = refl
tables-append (e ∷ es) fs = ap (λ y. table_in e.given ++ y) (tables-append es fs) ∙ sym (append_assoc (table_in e.given) (tables_of es) (tables_of fs))

position_at : {r : ReaderView} {t u : List ℕ} {es fs : List Entry} → t ≡ u → es ≡ fs → IsReaderAt r t es → IsReaderAt r u fs
position_at {r} {t} {u} {es} {fs} a b x = subst (λ y. IsReaderAt r u y) b (subst (λ y. IsReaderAt r y es) a x)

-- a reader that returned no item is past the end of the whole piece, whatever it took
pub taken_all : (now new : ReaderView) (piece : List ℕ) (n : ℕ) (t : List ℕ) (es : List Entry) → TakesOn now piece n new t es → IsReaderAt new (t ++ piece) es
taken_all now new piece n t es x = by now.at.verdict refl
  where
    by : (o : Verdict) → now.at.verdict ≡ o → IsReaderAt new (t ++ piece) es
    by Open e = position_at (ap (λ y. t ++ y) (take_all n piece (omega (arith, x.all e)))) refl x.position
    by Done e =
        position_at (append_assoc t (take n piece) (drop n piece) ∙ ap (λ y. t ++ y) (take-append-drop n piece)) refl
        (ended_position new (t ++ take n piece) es (drop n piece) (λ q. let s = x.same in cc) x.position)
    by (Bad k) e =
        position_at (append_assoc t (take n piece) (drop n piece) ∙ ap (λ y. t ++ y) (take-append-drop n piece)) refl
        (ended_position new (t ++ take n piece) es (drop n piece) (λ q. let s = x.same in cc) x.position)

-- a restarted reader was given the bytes before the tail
pub record IsReceiving (limits : LimitNumbers) (bytes : List ℕ) (now : ReaderView) (handed : List Table) (rest : List ℕ) : Type 0 where
  pub taken : List ℕ
  pub whole : taken ++ rest ≡ bytes
  pub out : HandsOut taken handed now
  pub same_limits : now.limits ≡ limits

module _ {l : LimitNumbers} {bytes : List ℕ} {now : ReaderView} {h : List Table} {rest : List ℕ} (new : ReaderView) (i : IsReceiving l bytes now h rest) where
  -- one more piece was given
  pub receiving_next : (h' : List Table) (piece rest' : List ℕ) → Feeds now h piece new h' → piece ++ rest' ≡ rest → new.limits ≡ now.limits → IsReceiving l bytes new h' rest'
  receiving_next h' piece rest' feeds e same = record {
    taken = i.taken ++ piece;
    whole = append_assoc i.taken piece rest' ∙ ap (λ y. i.taken ++ y) e ∙ i.whole;
    out = feeds i.taken i.out;
    same_limits = same ∙ i.same_limits;
  }

  -- the last piece is the tail
  pub handed_out : (h' : List Table) → Feeds now h rest new h' → HandsOut bytes h' new
  handed_out h' feeds = subst (λ t. HandsOut t h' new) i.whole (feeds i.taken i.out)

  -- a reader that stopped inside a piece has read a prefix of the bytes
  pub stopped_inside : (piece after : List ℕ) → FeedsInside now h piece new → piece ++ after ≡ rest → IsReaderInside bytes new
  stopped_inside piece after feeds e =
      let inside = feeds i.taken i.out in
      record {
        taken = inside.taken;
        rest = inside.rest ++ after;
        whole = sym (append_assoc inside.taken inside.rest after) ∙ ap (λ y. y ++ after) inside.whole ∙ append_assoc i.taken piece after ∙ ap (λ y. i.taken ++ y) e ∙ i.whole;
        position = inside.position;
      }

-- a reader that has read all the bytes has read a prefix of them
pub out_inside : (bytes : List ℕ) (h : List Table) (r : ReaderView) → HandsOut bytes h r → IsReaderInside bytes r
out_inside bytes h r out = record { taken = bytes; rest = []; whole = append-nil bytes; position = (out.entries, out.position) }

-- a proposition that always holds also holds for an error
pub on_err-always : {V E P : Type 0} (r : Result V E) → P → OnErr r P
on_err-always (Ok v) p = tt
on_err-always (Err e) p = p

-- while the stream is open, the bytes held are the tail; otherwise the ending does not depend on them
pub ended_same : (o : Verdict) (seen : Bool) (rest held : List ℕ) (place : ℕ) → (o ≡ Open → rest ≡ held) → ended_by o seen held place ≡ ended_by o seen rest place
ended_same Open seen rest held place h = ap (λ y. ended_by Open seen y place) (sym (h refl))
ended_same Done seen rest held place h = refl
ended_same (Bad k) seen rest held place h = refl

-- one more message adds its batch, if it has one
pub one_table : (es : List Entry) (x : Entry) → tables_of (es ++ x ∷ []) ≡ tables_of es ++ table_in x.given
one_table es x = tables-append es (x ∷ []) ∙ ap (λ ts. tables_of es ++ ts) (append-nil (table_in x.given))
