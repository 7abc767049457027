-- Children that are sent unsliced.
use Rattle.std.specs.Prelude.{◌≡◌, List}
use Rattle.arrow_data.specs.Column.{AreOf, Column}
use Rattle.arrow_layout.specs.Form.{node_form}
use Rattle.arrow_body_reader.specs.Taken.{below}
use Rattle.arrow_body_laws.specs.Laws.{raws_of}
use Rattle.arrow_body_laws.specs.Raws.{raws_below}

-- The columns below the column's own node are sent exactly the raw values of the children (Columnar Format,
-- "Variable-size List Layout", "Fixed-Size List Layout", "Struct Layout").
pub record AreSentWhole (c : Column) (children : List Column) : Type 0 where
  pub typed : AreOf (below c.encoding c.data_type.children) children
  pub same : raws_below (node_form c.data_type.tag c.encoding) c.data_type.children c.raw ≡ raws_of children
