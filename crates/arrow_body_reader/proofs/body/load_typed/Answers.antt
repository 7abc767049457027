use Rattle.std.proofs.Common.{sym}
use Rattle.arrow_types.specs.View.{fields_view}
use Rattle.arrow_body_reader.specs.Sound.{AreFit}
use Rattle.arrow_body_reader.specs.Types.{HaveTypes}
use Rattle.arrow_body_reader.specs.declared.build.Builder.{Builder}
use Rattle.arrow_body_reader.proofs.Building.{start_building}
use Rattle.arrow_body_reader.proofs.Types.{typed_as}
use Rattle.arrow_body_reader.proofs.body.load_typed.Goals as goal

pub walk-requires : goal.walk-requires
walk-requires c =
    let fields = fields_view c.args.fields.now in
    let types = c.args.types.now in
    record {
      building = start_building (λ (b : Builder). b.body.now) (λ (b : Builder). b.arrays.items) c.args.body.now c.as_slice.result.now c.new-builder.result (HaveTypes fields types) (AreFit c.new.result.entries.now fields)
          (sym c.as_slice.ensures) (typed_as fields types c.requires.typed) (rw c.new.ensures c.requires.fit) c.new-builder.ensures;
    }
