use Rattle.std.proofs.Common.{◌≡◌, ℕ, List, [], ◌∷◌, refl, ap, ◌∙◌}
use Rattle.arrow_flatbuf.specs.declared.layout.FieldValue.TheVariants.{Target}
use Rattle.arrow_flatbuf.specs.Layout.{up}
use Rattle.arrow_flatbuf.specs.Nodes.{after, cells_place, byte_string, offset, last}
use Rattle.arrow_types.specs.Notes.{pair_view}
use Rattle.arrow_meta_writer.specs.Capped.{capped}
use Rattle.arrow_meta_writer.specs.Layouts.{pair_cells}
use Rattle.arrow_meta_writer.proofs.Exact.{exact_table, exact_after}
use Rattle.arrow_meta_writer.proofs.metadata.pair_slots.Goals as goal

pub returns : goal.returns
returns c =
    let place = c.args.place in
    let p = pair_view c.args.pair.now in
    let cs = pair_cells p in
    let q = cells_place place cs in
    let key = byte_string p.key in
    let table = c.pair_table_end-key.result in
    let at_key = exact_table table place place cs (c.pair_table_end-key.ensures.end p) refl c.requires.room in
    let wrote_key : c.bytes_after-value.result ≡ capped (after table key) =
    c.bytes_after-value.ensures.end ∙ ap (λ (s : List ℕ). capped (after table (byte_string s))) c.deref.ensures.value in
    let at_value = exact_after table c.bytes_after-value.result q key (offset (byte_string p.value) last) wrote_key at_key c.requires.room in
    let at_0 : c.aligned.result ≡ up 4 q = c.aligned.ensures.value ∙ ap (up 4) at_key in
    let at_1 : c.aligned-2.result ≡ up 4 (after q key) = c.aligned-2.ensures.value ∙ ap (up 4) at_value in
    record { slots = c.pair_table.ensures ∙ (λ i. Target (at_0 i) ∷ Target (at_1 i) ∷ []) }
