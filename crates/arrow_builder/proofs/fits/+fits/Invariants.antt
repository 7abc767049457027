use Rattle.std.proofs.Common.{◌↔◌, drop}
use Rattle.arrow_types.specs.View.{fields_view}
use Rattle.arrow_layout.specs.Fits.{ItemsFit, PartsFit}
use Rattle.arrow_layout.specs.PlainValue.{values_of}
use Rattle.arrow_layout.specs.Value.{values_view}
use Rattle.arrow_builder.proofs.fits.+fits.Given as goal

abbrev pub invariant-items_fit-loop-item : goal.invariant-items_fit-loop-item
invariant-items_fit-loop-item l =
    ItemsFit (fields_view l.fields) (values_of (values_view (drop l.item-index l.items)))
    ↔ ItemsFit (fields_view l.fields) (values_of (values_view l.items))

abbrev pub invariant-parts_fit-loop-i : goal.invariant-parts_fit-loop-i
invariant-parts_fit-loop-i l =
    PartsFit (fields_view (drop l.i l.fields)) (values_of (values_view (drop l.i l.parts)))
    ↔ PartsFit (fields_view l.fields) (values_of (values_view l.parts))
