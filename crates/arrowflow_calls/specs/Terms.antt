-- The limits with which a stream is read.
use Rattle.std.specs.Prelude.{◌≤◌, ◌==◌, if◌then◌else◌}
use Rattle.arrow_types.specs.Limits.{AreWithinCeilings, LimitNumbers, limits_of}
use Rattle.arrow_types.specs.declared.type_set.TypeSet.TheVariants.{All, Core}
use Rattle.arrow_dict.specs.declared.update.Updates.TheVariants.{Delta, Resend}
use Rattle.arrow_stream_laws.specs.Sizes.{Options}
use Rattle.arrowflow_calls.specs.declared.terms.LimitsC.{LimitsC}
use Rattle.arrowflow_calls.specs.declared.terms.OptionsC.{OptionsC}

-- the limits that these numbers give
abbrev pub numbers : LimitsC → LimitNumbers
numbers l = limits_of l.max_metadata l.max_body l.max_rows (if l.types == 0 then Core else All)

-- each number is at most its ceiling, and the set of types exists
pub record AreLimits (l : LimitsC) : Type 0 where
  pub within : AreWithinCeilings (numbers l)
  pub known : l.types ≤ 1

-- the writer's options that these options give
abbrev pub options_by : OptionsC → Options
options_by o = record { updates = if o.resend then Resend else Delta; align = if o.pad_to_8 then 8 else 64 }
