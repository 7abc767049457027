use Rattle.std.proofs.Common.{◌≡◌, ◌+◌, ◌<◌, ◌∷◌, ◌++◌, [], not, ap, sym, ◌∙◌, length, rules, arith, map}
use Rattle.std.proofs.lemmas.Result.{err_from_is_err_and}
use Rattle.std.specs.Vec.Iter.{into_iter_items}
use Rattle.std.proofs.lemmas.List.{nil_from_length}
use Rattle.arrow_types.specs.Field.{width, fields_of}
use Rattle.arrow_types.specs.Notes.{notes_of}
use Rattle.arrow_types.specs.View.{field_notes, field_view, fields_view, type_notes, type_view}
use Rattle.arrow_types.proofs.Fields.{width-fields_view}
use Rattle.arrow_meta_schema.specs.Builds.{size, size_all}
use Rattle.arrow_meta_tree.specs.Types.{type_code}
use Rattle.arrow_meta_schema.specs.Conditions.{any, is_misfit, children_fit}
use Rattle.arrow_meta_tree.specs.Parts.{nth, parts, number_at, flag_at, text_in}
use Rattle.arrow_meta_schema.specs.SchemaMeaning.{fields_in, fields_at, tag_by, encoding_in, metadata_in, notes_at, notes_in}
use Rattle.arrow_meta_tree.specs.Views.{plain, plain_all}
use Rattle.arrow_meta_schema.proofs.FieldTables.{shapes_in, shapes_from, one_field, noted_shapes, noted_from}
use Rattle.arrow_meta_schema.proofs.Misfits.{refuses_more, misfit_here, misfit_below, size_nth, size_positive, joined_same}
use Rattle.arrow_meta_schema.proofs.TableFields.{fields_at_nth, notes_at_nth}
use Rattle.arrow_meta_schema.proofs.fields.+fields.Goals as goal

pub field-fields-requires : goal.field-fields-requires
field-fields-requires t c =
    let xs = plain_all c.args.parts.items in
    let small : size (plain c.move_out-moved.result.children) < size_all xs + 1 = omega (arith, ap size c.move_out-moved.ensures.children, size_nth 5 xs) in
    search (rules, small, c.decreases)

pub field-returns-in_err-children : goal.field-returns-in_err-children
field-returns-in_err-children t c =
    let failed = err_from_is_err_and c.from_residual.result c.from_residual.ensures.1 in
    rw (failed.1, failed.2) (record {
      built = refuses_more c.in_err-children.field-0.0 _ _ (λ h. misfit_below (plain_all c.args.parts.items) 5 (ap (any is_misfit) (sym c.move_out-moved.ensures.children) ∙ h)) c.in_err-children.ensures.built;
    })

pub field-returns-in_err-data_type : goal.field-returns-in_err-data_type
field-returns-in_err-data_type t c =
    let xs = plain_all c.args.parts.items in
    let down = c.move_out-moved.ensures.children in
    let code : c.type_code-code.result ≡ type_code (number_at 2 0 xs) =
    c.type_code-code.ensures.code ∙ ap type_code (c.number_at.ensures.number ∙ ap (λ ts. number_at 2 0 (plain_all ts)) c.deref-2.ensures.value) in
    let count : length c.in_ok-children.children.items ≡ width (fields_in (nth 5 xs)) =
    sym (width-fields_view c.in_ok-children.children.items) ∙ ap width (c.in_ok-children.ensures.built.0 ∙ ap fields_in down) in
    let same : not (children_fit (type_code (number_at 2 0 xs)) (width (fields_in (nth 5 xs)))) ≡ not (children_fit c.type_code-code.result (length c.in_ok-children.children.items)) =
    ap (λ x. not (children_fit x (width (fields_in (nth 5 xs))))) (sym code) ∙ ap (λ n. not (children_fit c.type_code-code.result n)) (sym count) in
    let failed = err_from_is_err_and c.from_residual-in_err-data_type.result c.from_residual-in_err-data_type.ensures.1 in
    rw (failed.1, failed.2) (record { built = refuses_more c.in_err-data_type.field-0.0 _ _ (λ h. misfit_here xs (same ∙ h)) c.in_err-data_type.ensures.built })

pub field-returns : goal.field-returns
field-returns t c =
    let xs = plain_all c.args.parts.items in
    let name = c.into_text.ensures.text ∙ ap text_in c.move_out-moved.ensures.name in
    let nullable = c.flag_at-nullable.ensures.flag ∙ ap (λ ts. flag_at 1 (plain_all ts)) c.deref.ensures.value in
    let encoding = c.encoding_at-dictionary.ensures.encoding ∙ ap (λ ts. encoding_in (nth 4 (plain_all ts))) c.deref-3.ensures.value in
    let code : c.type_code-code.result ≡ type_code (number_at 2 0 xs) =
    c.type_code-code.ensures.code ∙ ap type_code (c.number_at.ensures.number ∙ ap (λ ts. number_at 2 0 (plain_all ts)) c.deref-2.ensures.value) in
    let below : fields_view c.in_ok-children.children.items ≡ fields_at 5 xs =
    c.in_ok-children.ensures.built.0 ∙ ap fields_in c.move_out-moved.ensures.children ∙ sym (fields_at_nth 5 xs) in
    let table : plain_all c.into_parts-table.result.items ≡ parts (nth 3 xs) =
    c.into_parts-table.ensures.parts ∙ ap parts c.move_out-moved.ensures.table in
    let type : type_view c.in_ok-data_type.data_type ≡ record { tag = tag_by (type_code (number_at 2 0 xs)) (parts (nth 3 xs)); children = fields_at 5 xs } =
    c.in_ok-data_type.ensures.built.0 ∙ (λ i. record { tag = tag_by (code i) (table i); children = below i }) in
    let pairs = c.in_ok-metadata.ensures.built ∙ ap metadata_in c.move_out-moved.ensures.metadata in
    let noted : type_notes c.in_ok-data_type.data_type ≡ notes_at 5 xs =
    c.in_ok-data_type.ensures.built.1 ∙ c.in_ok-children.ensures.built.1 ∙ ap notes_in c.move_out-moved.ensures.children ∙ sym (notes_at_nth 5 xs) in
    record {
      built = (
        c.joined.ensures.field ∙ joined_same _ _ _ _ _ _ _ _ name nullable encoding type,
        c.joined.ensures.notes ∙ (λ i. record { pairs = pairs i; below = noted i }),
      );
    }

pub fields_of-field-requires : goal.fields_of-field-requires
fields_of-field-requires t c =
    let e : into_iter_items c.loop-table.table-iterator ≡ c.in-Some.table ∷ into_iter_items c.next.new.self = search (rules, c.in-Some.ensures.steps) in
    let small : size_all (plain_all c.in-Some-into_field_parts.parts.items) + 1 < size_all (plain_all c.args.tables.items) =
    omega (arith, ap (λ ts. size_all (plain_all ts)) e, ap size c.in-Some-into_field_parts.ensures.parts.1, c.loop-table.invariant.2, size_positive (plain_all (into_iter_items c.next.new.self))) in
    search (rules, small, c.decreases)

pub fields_of-returns : goal.fields_of-returns
fields_of-returns t c =
    let e : into_iter_items c.loop-table.table-iterator ≡ [] = nil_from_length _ (sym c.loop-table.table-iterator.rest.ok.0 ∙ c.in-None.ensures.steps.0) in
    let all : map field_view c.loop-table.fields.items ≡ shapes_in c.args.tables.items = search (rules, e, c.loop-table.invariant.4) in
    let noted : map field_notes c.loop-table.fields.items ≡ noted_shapes c.args.tables.items = search (rules, e, c.loop-table.invariant.5) in
    record { built = (ap fields_of all ∙ shapes_from c.args.tables.items, ap notes_of noted ∙ noted_from c.args.tables.items); some = tt }

pub fields_of-returns-in_err-field-clause-some : goal.fields_of-returns-in_err-field-clause-some
fields_of-returns-in_err-field-clause-some t c =
    let e : into_iter_items c.loop-table.table-iterator ≡ c.in-Some.table ∷ into_iter_items c.next.new.self = search (rules, c.in-Some.ensures.steps) in
    let before = map field_view c.loop-table.fields.items in
    let failed = err_from_is_err_and c.from_residual.result c.from_residual.ensures.1 in
    rw failed.1 (one_field before c.in-Some.table c.in-Some-into_field_parts.ensures.parts.0 (plain_all c.in-Some-into_field_parts.parts.items) (into_iter_items c.next.new.self) c.args.tables.items
    c.in-Some-into_field_parts.ensures.parts.1 (ap (λ ts. before ++ shapes_in ts) (sym e) ∙ c.loop-table.invariant.4))

pub fields_of-returns-in_err-push-clause-some : goal.fields_of-returns-in_err-push-clause-some
fields_of-returns-in_err-push-clause-some t c =
    let e : into_iter_items c.loop-table.table-iterator ≡ c.in-Some.table ∷ into_iter_items c.next.new.self = search (rules, c.in-Some.ensures.steps) in
    let before = map field_view c.loop-table.fields.items in
    let failed = err_from_is_err_and c.from_residual-in_err-push.result c.from_residual-in_err-push.ensures.1 in
    rw failed.1 (one_field before c.in-Some.table c.in-Some-into_field_parts.ensures.parts.0 (plain_all c.in-Some-into_field_parts.parts.items) (into_iter_items c.next.new.self) c.args.tables.items
    c.in-Some-into_field_parts.ensures.parts.1 (ap (λ ts. before ++ shapes_in ts) (sym e) ∙ c.loop-table.invariant.4))
