-- Nodes that have neither children nor a dictionary. Only the crate's private clauses cite this.
use Rattle.std.specs.Prelude.{◌≡◌, None}
use Rattle.arrow_types.specs.Field.{FieldTree, FieldHeader, none}
use Rattle.arrow_layout.specs.Form.{IsLeaf, form_of}

-- a field's own node holds its values itself, and there are no fields below it
pub record IsLeafNode (head : FieldHeader) (children : FieldTree) : Type 0 where
  pub own : head.encoding ≡ None
  pub leaf : IsLeaf (form_of head.tag)
  pub bare : children ≡ none
