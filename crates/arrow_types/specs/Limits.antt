-- The limits of a reader and a writer. The standard sets no such limits: they are this project's own.
use Rattle.std.specs.Prelude.{ℕ, ◌^◌, ◌≤◌}
use Rattle.arrow_types.specs.declared.type_set.TypeSet.{TypeSet}
use Rattle.arrow_types.specs.declared.type_set.TypeSet.TheVariants.{Core}

-- the greatest number of bytes of one message's metadata, of bytes of its body, and of rows of a batch, and the types
pub record LimitNumbers : Type 0 where
  pub max_metadata : ℕ
  pub max_body : ℕ
  pub max_rows : ℕ
  pub types : TypeSet

-- these three numbers and this set of types
abbrev pub limits_of : ℕ → ℕ → ℕ → TypeSet → LimitNumbers
limits_of metadata body rows types = record { max_metadata = metadata; max_body = body; max_rows = rows; types = types }

-- these three numbers, with the core of the types
abbrev pub limit_numbers : ℕ → ℕ → ℕ → LimitNumbers
limit_numbers metadata body rows = limits_of metadata body rows Core

-- the limits with this set of types
abbrev pub limits_with : LimitNumbers → TypeSet → LimitNumbers
limits_with n types = limits_of n.max_metadata n.max_body n.max_rows types

-- each number is at most its ceiling
pub record AreWithinCeilings (n : LimitNumbers) : Type 0 where
  pub metadata : n.max_metadata ≤ 2 ^ 30
  pub body : n.max_body ≤ 2 ^ 40
  pub rows : n.max_rows ≤ 2147483647

-- the defaults: 64 MiB of metadata, 64 GiB of body, as many rows as a signed 32-bit number counts
abbrev pub standard_numbers : LimitNumbers
standard_numbers = limit_numbers (2 ^ 26) (2 ^ 36) 2147483647
