-- Which types are read and written. (The sets are this project's own; the types are those of Schema.fbs, union
-- "Type".)
use Rattle.std.specs.Prelude.{Bool, true, false, ◌&&◌, ◌||◌}
use Rattle.arrow_types.specs.DataType.{TypeId}
use Rattle.arrow_types.specs.DataType as tags
use Rattle.arrow_types.specs.Field.{FieldTree, none, more, FieldShape}
use Rattle.arrow_types.specs.declared.type_set.TypeSet.{TypeSet}
use Rattle.arrow_types.specs.declared.type_set.TypeSet.TheVariants.{Core, All}

-- whether a type is outside the core
abbrev pub is_late : TypeId → Bool
is_late (tags.floating_point _) = true
is_late (tags.decimal _ _ _) = true
is_late (tags.interval _) = true
is_late (tags.fixed_size_list _) = true
is_late (tags.map _) = true
is_late _ = false

-- whether a set has only the core
abbrev pub is_core : TypeSet → Bool
is_core Core = true
is_core All = false

-- whether a set leaves a type out
abbrev pub leaves_out : TypeSet → TypeId → Bool
leaves_out types tag = is_late tag && is_core types

-- whether a set leaves out the type of one of these fields, on any level
abbrev pub leaves_some_out : TypeSet → FieldTree → Bool
leaves_some_out types none = false
leaves_some_out types (more head children rest) =
    leaves_out types head.tag || leaves_some_out types children || leaves_some_out types rest

-- the same for one field and those below it
abbrev pub field_leaves_out : TypeSet → FieldShape → Bool
field_leaves_out types f = leaves_out types f.head.tag || leaves_some_out types f.children
