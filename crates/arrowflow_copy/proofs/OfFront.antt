-- From a prefix of bytes to the complete messages at the start of all of them.
use Rattle.std.proofs.Common.{◌≡◌, ℕ, List, [], ◌∷◌, ◌++◌, Option, None, Some, inl, inr, refl, sym, ap, ◌∙◌, subst, append_assoc}
use Rattle.std.specs.Io.KnownBytes.{Appends}
use Rattle.arrow_types.specs.Limits.{LimitNumbers}
use Rattle.arrow_types.specs.Notes.{SchemaShape}
use Rattle.arrow_data.specs.Batch.{Table}
use Rattle.arrow_stream_reader.specs.Front.{Entry, Snapshot, FrontOf}
use Rattle.arrow_stream_reader.specs.State.{StreamState}
use Rattle.arrow_stream_reader.specs.Tables.{table_in, tables_of}
use Rattle.arrow_stream_reader.proofs.Fronts.{at_bytes, more_bytes}
use Rattle.arrow_stream_laws.specs.Sizes.{Options}
use Rattle.arrowflow_input.proofs.Feeding.{tables-append}
use Rattle.arrowflow_input.proofs.First.{state_stays}
use Rattle.arrowflow_input.proofs.Feeding.{one_table}
use Rattle.arrowflow_input.proofs.Schemas.{schema_kept}
use Rattle.arrowflow_copy.specs.Copy.{IsSentInPartOf}
use Rattle.arrowflow_copy.specs.OfFront.{BatchOfFront, PartOfFront, SchemaOfFront}

-- the batches at the start of more bytes
tables_after : {l : LimitNumbers} {b : List ℕ} {es fs : List Entry} {e f : Snapshot} (c : List ℕ) → FrontOf l b es e → FrontOf l (b ++ c) fs f → (more : List Table) × (tables_of es ++ more ≡ tables_of fs)
tables_after {es = es} c x y =
    let m = (more_bytes c x y).0 in
    (tables_of m.0, sym (ap tables_of m.1 ∙ tables-append es m.0))

-- a copy begun with the first batches is one begun with more
in_part : (limits : LimitNumbers) (o : Options) (schema : Option SchemaShape) (ts more us : List Table) (before after : Option (List ℕ)) → ts ++ more ≡ us → IsSentInPartOf limits o schema ts before after
    → IsSentInPartOf limits o schema us before after
in_part limits o None ts more us before after whole s = s
in_part limits o (Some shape) ts more us before after whole (inl none) = inl none
in_part limits o (Some shape) ts more us before after whole (inr s) = inr (record {
  first = s.first;
  later = s.later ++ more;
  all = sym (append_assoc s.first s.later more) ∙ ap (λ t. t ++ more) s.all ∙ whole;
  parts = s.parts;
  frames = s.frames;
  text = s.text;
  wrote = s.wrote;
})

-- if nothing was written, this holds for every schema
nothing_part : (limits : LimitNumbers) (o : Options) (schema : Option SchemaShape) (ts : List Table) (before after : Option (List ℕ)) → Appends before after [] → IsSentInPartOf limits o schema ts before after
nothing_part limits o None ts before after none = none
nothing_part limits o (Some shape) ts before after none = inl none

-- a copy begun with a prefix of bytes is one begun with all of them
part_after : (limits : LimitNumbers) (o : Options) {b : List ℕ} {es fs : List Entry} {e f : Snapshot} (c : List ℕ) (before after : Option (List ℕ)) → FrontOf limits b es e → FrontOf limits (b ++ c) fs f
    → IsSentInPartOf limits o e.state.schema (tables_of es) before after → IsSentInPartOf limits o f.state.schema (tables_of fs) before after
part_after limits o {es = []} {fs = fs} {f = f} c before after x y s =
    nothing_part limits o f.state.schema (tables_of fs) before after
    (subst (λ (t : StreamState). IsSentInPartOf limits o t.schema [] before after) (state_stays x refl) s)
part_after limits o {es = z ∷ zs} {fs = fs} {f = f} c before after x y s =
    let w = tables_after c x y in
    in_part limits o f.state.schema (tables_of (z ∷ zs)) w.0 (tables_of fs) before after w.1
    (subst (λ t. IsSentInPartOf limits o t (tables_of (z ∷ zs)) before after) (sym (schema_kept c x y refl (λ q. cc))) s)

pub part_of_front : PartOfFront
part_of_front limits o bytes before after es e y x = part_after limits o x.rest before after x.front (at_bytes (sym x.whole) y) x.sent

pub schema_of_front : SchemaOfFront
schema_of_front limits o bytes kind before after es e y x =
    let all = at_bytes (sym x.whole) y in
    let m = (more_bytes x.rest x.front all).0 in
    record {
      first = x.entry;
      later = m.0;
      all = m.1;
      is_schema = x.is_schema;
      shape = x.shape;
      schema = schema_kept x.rest x.front all refl (λ q. cc) ∙ x.schema;
      refusal = x.refusal;
      wrote = x.wrote;
    }

has_last : (es : List Entry) (x : Entry) → es ++ x ∷ [] ≡ [] → ⊥
has_last [] x q = cc
has_last (y ∷ es) x q = cc

pub batch_of_front : BatchOfFront
batch_of_front limits o bytes number kind before after es e y x =
    let all = at_bytes (sym x.whole) y in
    let w = tables_after x.rest x.front all in
    let ts = tables_of x.entries in
    record {
      first = ts;
      table = x.table;
      later = w.0;
      all = sym w.1 ∙ ap (λ t. t ++ w.0) (one_table x.entries x.entry ∙ ap (λ g. ts ++ table_in g) x.is_batch) ∙ append_assoc ts (x.table ∷ []) w.0;
      numbered = x.numbered;
      shape = x.shape;
      schema = schema_kept x.rest x.front all refl (has_last x.entries x.entry) ∙ x.schema;
      sent = x.sent;
      refusal = x.refusal;
    }
