use Rattle.std.proofs.Common.{ℕ, ◌≤◌, List, length, ◌++◌, sym, subst, ap, ◌∙◌}
use Rattle.arrow_flatbuf.specs.Nodes.{after, laid, table, byte_string, offset, last}
use Rattle.arrow_flatbuf.proofs.Left.{begun, stepped, ended}
use Rattle.arrow_types.specs.Notes.{pair_view}
use Rattle.arrow_meta_writer.specs.Layouts.{pair_cells}
use Rattle.arrow_meta_writer.proofs.Exact.{slots_there, table_fits}
use Rattle.arrow_meta_writer.proofs.metadata.write_pair.Goals as goal

pub pair_slots-slots-requires : goal.pair_slots-slots-requires
pair_slots-slots-requires c =
    let node = table (pair_cells (pair_view c.args.pair.now)) in
    record { room = subst (λ (n : ℕ). after n node ≤ 1073741824) (sym c.place.ensures) c.requires.room }

pub table-requires-clause-fits : goal.table-requires-clause-fits
table-requires-clause-fits c =
    let p = length c.args.writer.now in
    let cs = pair_cells (pair_view c.args.pair.now) in
    let ss = c.pair_slots-slots.result in
    table_fits p ss cs (slots_there c.place.result p ss cs c.place.ensures c.pair_slots-slots.ensures.slots) tt c.requires.room

pub returns : goal.returns
returns c =
    let old = c.args.writer.now in
    let p = pair_view c.args.pair.now in
    let cs = pair_cells p in
    let node = table cs in
    let ss = c.pair_slots-slots.result in
    let same = slots_there c.place.result (length old) ss cs c.place.ensures c.pair_slots-slots.ensures.slots in
    let t = c.table.new.self in
    let k = c.bytes.new.self in
    let v = c.bytes-2.new.self in
    let wrote_key = c.in_ok-bytes.ensures.ok ∙ ap (λ (s : List ℕ). t ++ laid (length t) (byte_string s)) c.deref.ensures.value in
    let wrote_value = c.in_ok-bytes-2.ensures.ok ∙ ap (λ (s : List ℕ). k ++ laid (length k) (byte_string s)) c.deref-2.ensures.value in
    let begins = begun old t ss cs c.in_ok-table.ensures.ok same in
    let keyed = stepped old t k (byte_string p.key) (offset (byte_string p.value) last) node begins wrote_key in
    ended old v node (stepped old k v (byte_string p.value) last node keyed wrote_value)
