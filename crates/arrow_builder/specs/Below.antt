-- Each column below another is smaller.
use Rattle.std.specs.Prelude.{◌≤◌, ◌+◌, List, [], ◌∷◌, Option, None, Some}
use Rattle.std.proofs.Common.{arith, ap}
use denote.Param.Weighed.{most}
use Rattle.arrow_types.specs.Field.{FieldTree, levels}
use Rattle.arrow_types.specs.declared.field.Encoding.{Encoding}
use Rattle.arrow_builder.specs.Built.{Built, AreBelow, built_size, fields_in}

-- the columns of fields are less deep than the levels of the fields
pub most_le-levels : (bs : List Built) → most (λ b. built_size b + 1) bs ≤ levels (fields_in bs)
most_le-levels [] = omega arith
most_le-levels (b ∷ bs) = omega (arith, most_le-levels bs)

-- the columns below a field are smaller than its own
pub depth_le : (e : Option Encoding) (fields : FieldTree) (bs : List Built) → AreBelow e fields bs → most (λ b. built_size b + 1) bs ≤ levels fields
depth_le None fields bs h = omega (arith, most_le-levels bs, ap levels h)
depth_le (Some e) fields bs h = omega (arith, ap (λ cs. most (λ b. built_size b + 1) cs) h.1)
