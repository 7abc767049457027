-- The content that belongs to a type's table: its time zone, if it has one.
use Rattle.std.proofs.Common.{◌≡◌, ℕ, List, Option, ◌++◌, length, refl, ap, ◌∙◌}
use Rattle.arrow_flatbuf.specs.Nodes.{Node, after_cells, laid_cells}
use Rattle.arrow_flatbuf.proofs.Left.{Left}
use Rattle.arrow_types.specs.DataType as tags
use Rattle.arrow_types.specs.DataType.{TypeId}
use Rattle.arrow_meta_writer.specs.Layouts.{type_cells, zone_cells, zone_in}

zone_after : (q : ℕ) (tag : TypeId) → after_cells q (zone_cells (zone_in tag)) ≡ after_cells q (type_cells tag)
zone_after q (tags.timestamp unit zone) = refl
zone_after q tag = refl

-- the position where all of it ends
pub zone_ends : (q : ℕ) (tag : TypeId) (zone : Option (List ℕ)) → zone ≡ zone_in tag → after_cells q (zone_cells zone) ≡ after_cells q (type_cells tag)
zone_ends q tag zone same = ap (λ z. after_cells q (zone_cells z)) same ∙ zone_after q tag

zone_laid : (q : ℕ) (tag : TypeId) → laid_cells q (zone_cells (zone_in tag)) ≡ laid_cells q (type_cells tag)
zone_laid q (tags.timestamp unit zone) = refl
zone_laid q tag = refl

-- After the table, only the zone remains to be written.
pub zone_left : (old now : List ℕ) (tag : TypeId) (zone : Option (List ℕ)) (whole : Node) → zone ≡ zone_in tag → Left old now (type_cells tag) whole → Left old now (zone_cells zone) whole
zone_left old now tag zone whole same left =
    ap (λ z. now ++ laid_cells (length now) (zone_cells z)) same ∙ ap (λ bytes. now ++ bytes) (zone_laid (length now) tag) ∙ left
