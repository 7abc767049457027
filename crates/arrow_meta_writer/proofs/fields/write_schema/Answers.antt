use Rattle.std.proofs.Common.{◌≡◌, ◌+◌, ◌≤◌, ◌++◌, ℕ, List, length, take, arith, sym, ap, subst, ◌∙◌}
use Rattle.arrow_flatbuf.specs.Nodes.{after, after_cells, cells_place, count, laid, laid_cells, offset, slots}
use Rattle.arrow_flatbuf.specs.Nodes.{table, tables}
use Rattle.arrow_flatbuf.proofs.Laid.{ahead_cells}
use Rattle.arrow_flatbuf.proofs.Left.{begun, left_ends, stepped}
use Rattle.arrow_types.specs.Notes.{KeyValue}
use Rattle.arrow_types.specs.View.{fields_view, notes_view}
use Rattle.arrow_meta_writer.specs.Layouts.{field_nodes, metadata_cells, schema_cells}
use Rattle.arrow_meta_writer.specs.Writable.{AreFields, AreNotesOf}
use Rattle.arrow_meta_writer.proofs.Exact.{slots_there, table_fits}
use Rattle.arrow_meta_writer.proofs.Noting.{metadata_fit}
use Rattle.arrow_meta_writer.proofs.fields.write_schema.Goals as goal

pub schema_slots-slots-requires : goal.schema_slots-slots-requires
schema_slots-slots-requires c =
    let node = table (schema_cells c.args.schema.now) in
    record { room = subst (λ (n : ℕ). after n node ≤ 1073741824) (sym c.place.ensures) c.requires.room }

pub table-requires-clause-fits : goal.table-requires-clause-fits
table-requires-clause-fits c =
    let p = length c.args.writer.now in
    let s = c.args.schema.now in
    let cs = schema_cells s in
    let n = 2 + c.metadata_fields.result in
    let ss = take n c.schema_slots-slots.result in
    let counted = c.metadata_fields.ensures.count ∙ ap (λ (xs : List KeyValue). count (metadata_cells xs)) c.metadata-pairs.ensures.same in
    let all : n ≡ count cs = omega (arith, counted) in
    let cut : ss ≡ slots (cells_place c.place.result cs) cs = ap (λ (k : ℕ). take k c.schema_slots-slots.result) all ∙ c.schema_slots-slots.ensures.slots in
    table_fits p ss cs (slots_there c.place.result p ss cs c.place.ensures cut) (omega arith, metadata_fit s.pairs) c.requires.room

pub write_fields-requires : goal.write_fields-requires
write_fields-requires c =
    let old = c.args.writer.now in
    let s = c.args.schema.now in
    let cs = schema_cells s in
    let n = 2 + c.metadata_fields.result in
    let ss = take n c.schema_slots-slots.result in
    let counted = c.metadata_fields.ensures.count ∙ ap (λ (xs : List KeyValue). count (metadata_cells xs)) c.metadata-pairs.ensures.same in
    let all : n ≡ count cs = omega (arith, counted) in
    let cut : ss ≡ slots (cells_place c.place.result cs) cs = ap (λ (k : ℕ). take k c.schema_slots-slots.result) all ∙ c.schema_slots-slots.ensures.slots in
    let t = c.table.new.self in
    let begins = begun old t ss cs c.in_ok-table.ensures.ok (slots_there c.place.result (length old) ss cs c.place.ensures cut) in
    let fields = tables (field_nodes s.fields s.notes) in
    let same : after (length t) (tables (field_nodes (fields_view c.fields.result.now) (notes_view c.fields.result.now))) ≡ after (length t) fields = λ i. after (length t) (tables (field_nodes (c.fields.ensures.same i) (c.fields.ensures.notes i))) in
    record { room = omega (arith, same, left_ends old t (offset fields (metadata_cells s.pairs)) (table cs) begins, ahead_cells (after (length t) fields) (metadata_cells s.pairs), c.requires.room) }

pub write_metadata-requires : goal.write_metadata-requires
write_metadata-requires c =
    let old = c.args.writer.now in
    let s = c.args.schema.now in
    let cs = schema_cells s in
    let n = 2 + c.metadata_fields.result in
    let ss = take n c.schema_slots-slots.result in
    let counted = c.metadata_fields.ensures.count ∙ ap (λ (xs : List KeyValue). count (metadata_cells xs)) c.metadata-pairs.ensures.same in
    let all : n ≡ count cs = omega (arith, counted) in
    let cut : ss ≡ slots (cells_place c.place.result cs) cs = ap (λ (k : ℕ). take k c.schema_slots-slots.result) all ∙ c.schema_slots-slots.ensures.slots in
    let t = c.table.new.self in
    let w = c.write_fields.new.writer in
    let begins = begun old t ss cs c.in_ok-table.ensures.ok (slots_there c.place.result (length old) ss cs c.place.ensures cut) in
    let fields = tables (field_nodes s.fields s.notes) in
    let wrote : w ≡ t ++ laid (length t) fields =
    c.in_ok-write_fields.ensures.bytes ∙ (λ i. t ++ laid (length t) (tables (field_nodes (c.fields.ensures.same i) (c.fields.ensures.notes i)))) in
    let left = stepped old t w fields (metadata_cells s.pairs) (table cs) begins wrote in
    record { room = subst (λ (xs : List KeyValue). after_cells (length w) (metadata_cells xs) ≤ 1073741824) (sym c.metadata-pairs.ensures.same) (omega (arith, left_ends old w (metadata_cells s.pairs) (table cs) left, c.requires.room)) }

pub returns-clause-bytes : goal.returns-clause-bytes
returns-clause-bytes c =
    let old = c.args.writer.now in
    let s = c.args.schema.now in
    let cs = schema_cells s in
    let n = 2 + c.metadata_fields.result in
    let ss = take n c.schema_slots-slots.result in
    let counted = c.metadata_fields.ensures.count ∙ ap (λ (xs : List KeyValue). count (metadata_cells xs)) c.metadata-pairs.ensures.same in
    let all : n ≡ count cs = omega (arith, counted) in
    let cut : ss ≡ slots (cells_place c.place.result cs) cs = ap (λ (k : ℕ). take k c.schema_slots-slots.result) all ∙ c.schema_slots-slots.ensures.slots in
    let t = c.table.new.self in
    let w = c.write_fields.new.writer in
    let begins = begun old t ss cs c.in_ok-table.ensures.ok (slots_there c.place.result (length old) ss cs c.place.ensures cut) in
    let fields = tables (field_nodes s.fields s.notes) in
    let wrote : w ≡ t ++ laid (length t) fields =
    c.in_ok-write_fields.ensures.bytes ∙ (λ i. t ++ laid (length t) (tables (field_nodes (c.fields.ensures.same i) (c.fields.ensures.notes i)))) in
    let left = stepped old t w fields (metadata_cells s.pairs) (table cs) begins wrote in
    c.in_ok-write_metadata.ensures ∙ ap (λ (xs : List KeyValue). w ++ laid_cells (length w) (metadata_cells xs)) c.metadata-pairs.ensures.same ∙ left

pub returns-clause-typed : goal.returns-clause-typed
returns-clause-typed c =
    let s = c.args.schema.now in (
      c.metadata-pairs.ensures.limits,
      record {
        fields_are = subst AreFields c.fields.ensures.same c.in_ok-write_fields.ensures.typed.fields_are;
        notes_are = subst (AreNotesOf s.fields) c.fields.ensures.notes
            (subst (λ fields. AreNotesOf fields (notes_view c.fields.result.now)) c.fields.ensures.same c.in_ok-write_fields.ensures.typed.notes_are);
      },
    )
