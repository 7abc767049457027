use Rattle.std.proofs.Common.{ℕ, ◌≤◌, subst, sym, length, arith}
use Rattle.arrow_flatbuf.specs.declared.layout.Width.TheVariants.{Eight}
use Rattle.arrow_flatbuf.specs.Nodes.{after, table, offset, scalar, last}
use Rattle.arrow_flatbuf.proofs.Left.{begun, stepped, ended, left_ends}
use Rattle.arrow_meta_writer.specs.Layouts.{header_cells, message_cells}
use Rattle.arrow_meta_reader.specs.Means.{header_view, message_view}
use Rattle.arrow_meta_writer.proofs.Exact.{slots_there, table_fits}
use Rattle.arrow_meta_writer.proofs.Fitting.{header_code_fits, version_fits}
use Rattle.arrow_meta_writer.proofs.writing.write_message.Goals as goal

pub message_slots-slots-requires : goal.message_slots-slots-requires
message_slots-slots-requires c =
    let node = table (message_cells (message_view c.args.message.now)) in
    record { room = subst (λ (n : ℕ). after n node ≤ 1073741824) (sym c.place.ensures) c.requires.room }

pub table-requires-clause-fits : goal.table-requires-clause-fits
table-requires-clause-fits c =
    let p = length c.args.writer.now in
    let cs = message_cells (message_view c.args.message.now) in
    let ss = c.message_slots-slots.result in
    let same = slots_there c.place.result p ss cs c.place.ensures c.message_slots-slots.ensures.slots in
    table_fits p ss cs same (version_fits c.args.message.now.version, (omega (arith, header_code_fits (header_view c.args.message.now.header)), (omega (arith, c.requires.body), tt))) c.requires.room

pub write_header-requires : goal.write_header-requires
write_header-requires c =
    let old = c.args.writer.now in
    let rest = scalar Eight c.args.message.now.body_len last in
    let header = table (header_cells (header_view c.args.message.now.header)) in
    let cs = message_cells (message_view c.args.message.now) in
    let ss = c.message_slots-slots.result in
    let same = slots_there c.place.result (length old) ss cs c.place.ensures c.message_slots-slots.ensures.slots in
    let begins = begun old c.table.new.self ss cs c.in_ok-table.ensures.ok same in
    record { room = omega (arith, left_ends old c.table.new.self (offset header rest) (table cs) begins, c.requires.room) }

pub returns-clause-bytes : goal.returns-clause-bytes
returns-clause-bytes c =
    let old = c.args.writer.now in
    let rest = scalar Eight c.args.message.now.body_len last in
    let header = table (header_cells (header_view c.args.message.now.header)) in
    let cs = message_cells (message_view c.args.message.now) in
    let ss = c.message_slots-slots.result in
    let same = slots_there c.place.result (length old) ss cs c.place.ensures c.message_slots-slots.ensures.slots in
    let begins = begun old c.table.new.self ss cs c.in_ok-table.ensures.ok same in
    let next = c.write_header.new.writer in
    ended old next (table cs) (stepped old c.table.new.self next header rest (table cs) begins c.in_ok-write_header.ensures.bytes)
