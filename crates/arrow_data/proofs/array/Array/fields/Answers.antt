use Rattle.std.proofs.Common.{ap, sym, ◌∙◌, subst}
use Rattle.arrow_types.specs.View.{type_view}
use Rattle.arrow_data.specs.Column.{Column, AreOf, HasFields, IsStruct}
use Rattle.arrow_layout.specs.ByteRanges.{bytes_of}
use Rattle.arrow_data.specs.Node.{AreRanges, column_by}
use Rattle.arrow_data.specs.declared.array.Ranges.TheVariants.{Structs}
use Rattle.arrow_data.proofs.Shown.{longer_of_counts}
use Rattle.arrow_data.proofs.Children.{part_of_column}
use Rattle.arrow_data.proofs.array.Array.fields.Goals as goal

-- the children of the ranges
pub returns-in-Structs : goal.returns-in-Structs
returns-in-Structs c =
    let a = c.self.inside in
    let t = type_view a.data_type.value in
    let v = c.in-Structs.validity in
    let cs = c.in-Structs.children.items in
    let ok = subst (AreRanges a.len t a.encoding a.body) c.in-Structs.is c.self.invariant.1 in
    let is = sym c.self.view_is ∙ ap (λ r. column_by t a.encoding a.len a.body r) c.in-Structs.is in
    let own = is ∙ ap (λ e. column_by t e a.len a.body (Structs v c.in-Structs.children)) ok.0 in
    let shown : HasFields c.args.self.now cs = record {
      is_struct = subst IsStruct (sym own) ok.1;
      typed = subst (λ (x : Column). AreOf x.data_type.children cs) (sym is) ok.2.typed;
      whole = sym (ap (λ (x : Column). x.below) is);
      listed = sym (ap (λ (x : Column). x.dictionaries) is);
      each = λ k child found. part_of_column c.args.self.now t a.len (bytes_of a.body v) cs k child own ok.1 ok.2.typed ok.2.known (longer_of_counts a.len cs ok.2.laid.longer) found;
    } in
    subst (λ ds. HasFields c.args.self.now ds) (sym c.deref.ensures.value) shown
