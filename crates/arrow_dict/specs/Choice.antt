-- What is sent of a dictionary if another one or none was sent (Columnar Format, "Dictionary Messages"). The choice
-- is this project's own.
use Rattle.std.specs.Prelude.{Bool, List, length, take, Option, Some, None, if◌then◌else◌}
use Rattle.std.specs.Coded.{coded_list}
use Rattle.arrow_types.specs.Equality.{is_equal}
use Rattle.arrow_layout.specs.PlainValue.{PlainValue}
use Rattle.arrow_layout.specs.Stored.{value_code}
use Rattle.arrow_dict.specs.declared.update.Update.{Update}
use Rattle.arrow_dict.specs.declared.update.Update.TheVariants as updates
use Rattle.arrow_dict.specs.declared.update.Updates.{Updates}
use Rattle.arrow_dict.specs.declared.update.Updates.TheVariants as modes

-- whether two lists are equal
abbrev pub same_list : List PlainValue → List PlainValue → Bool
same_list xs ys = is_equal (coded_list value_code) xs ys

-- what is sent of a list that differs from the one that was sent: if that one is a prefix of it, and deltas are sent,
-- the values after it; else the whole list
abbrev pub growth : Updates → List PlainValue → List PlainValue → Update
growth modes.Delta old new = if same_list (take (length old) new) old then updates.Delta (length old) else updates.Replace
growth modes.Resend old new = updates.Replace

-- what is sent of a list if another one or none was sent: the whole list if none was, nothing for an equal one
abbrev pub choice : Updates → Option (List PlainValue) → List PlainValue → Update
choice mode None new = updates.New
choice mode (Some old) new = if same_list old new then updates.None else growth mode old new
