use Rattle.arrow_layout.proofs.Values.{lists_agree, structs_agree}
use Rattle.arrow_layout.proofs.value.+same.Goals as goal

pub same_value-returns-in-List-List : goal.same_value-returns-in-List-List
same_value-returns-in-List-List t c =
    let d = c.in-List-List in
    lists_agree c.args.one.now c.args.other.now d.values d.others c.same_list.result d.is-0 d.is-1 (rw (c.deref.ensures.value, c.deref-in-List-List.ensures.value) at c.same_list.ensures)

pub same_value-returns-in-Struct-Struct : goal.same_value-returns-in-Struct-Struct
same_value-returns-in-Struct-Struct t c =
    let d = c.in-Struct-Struct in
    structs_agree c.args.one.now c.args.other.now d.values d.others c.same_list-in-Struct-Struct.result d.is-0 d.is-1 (rw (c.deref-in-Struct-Struct.ensures.value, c.deref-in-Struct-Struct-2.ensures.value) at c.same_list-in-Struct-Struct.ensures)
