-- The fields of a type's table, exactly those that it has.
use Rattle.std.specs.Prelude.{List, []}
use Rattle.arrow_flatbuf.specs.declared.layout.FieldValue.{FieldValue}
use Rattle.arrow_meta_writer.specs.declared.types.TypeSlots.{TypeSlots}
use Rattle.arrow_meta_writer.specs.declared.types.TypeSlots.TheVariants.{Zero, One, Two, Three}

-- the fields by number
abbrev pub listed : TypeSlots → List FieldValue
listed Zero = []
listed (One fields) = fields
listed (Two fields) = fields
listed (Three fields) = fields
