-- How the logic encodes plain values: as trees of numbers, a different tree for each value.
use Rattle.std.specs.Prelude.{◌≡◌}
use Rattle.std.proofs.Common.{ap, refl}
use Rattle.std.specs.Coded.{Coded, coded_ℕ, coded_ℤ, coded_bool, coded_list}
use base.Stored.{Gv, gnil, gnum, gcons}
use Rattle.arrow_layout.specs.PlainValue.{PlainValue, PlainValues, null_value, bool_value, int_value, binary_value, utf8_value, list_value, struct_value, no_values, more_values}

abbrev mutual
  -- the tree of a value, with a number for each kind of value
  pub value_gv : PlainValue → Gv
  value_gv null_value = gnil
  value_gv (bool_value b) = gcons (gnum 0) (coded_bool.code b)
  value_gv (int_value z) = gcons (gnum 1) (coded_ℤ.code z)
  value_gv (binary_value bytes) = gcons (gnum 2) ((coded_list coded_ℕ).code bytes)
  value_gv (utf8_value bytes) = gcons (gnum 3) ((coded_list coded_ℕ).code bytes)
  value_gv (list_value values) = gcons (gnum 4) (values_gv values)
  value_gv (struct_value values) = gcons (gnum 5) (values_gv values)

  -- the tree of a sequence of values
  pub values_gv : PlainValues → Gv
  values_gv no_values = gnil
  values_gv (more_values value values) = gcons (value_gv value) (values_gv values)

mutual
  -- values with the same tree are equal
  pub value_inj : (x y : PlainValue) → value_gv x ≡ value_gv y → x ≡ y
  value_inj null_value null_value p = refl
  value_inj (bool_value a) (bool_value b) p = ap bool_value (coded_bool.inj a b (cc))
  value_inj (int_value a) (int_value b) p = ap int_value (coded_ℤ.inj a b (cc))
  value_inj (binary_value a) (binary_value b) p = ap binary_value ((coded_list coded_ℕ).inj a b (cc))
  value_inj (utf8_value a) (utf8_value b) p = ap utf8_value ((coded_list coded_ℕ).inj a b (cc))
  value_inj (list_value a) (list_value b) p = ap list_value (values_inj a b (cc))
  value_inj (struct_value a) (struct_value b) p = ap struct_value (values_inj a b (cc))
  value_inj x y p = cc

  -- and so are sequences of values
  pub values_inj : (x y : PlainValues) → values_gv x ≡ values_gv y → x ≡ y
  values_inj no_values no_values p = refl
  values_inj (more_values a as') (more_values b bs') p = λ i. more_values (value_inj a b (cc) i) (values_inj as' bs' (cc) i)
  values_inj x y p = cc

-- how the logic encodes a value
abbrev pub value_code : Coded PlainValue
value_code = record { code = value_gv; inj = value_inj }
