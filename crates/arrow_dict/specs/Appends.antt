-- What happens to values that are to be appended to a dictionary (Message.fbs, table "DictionaryBatch", field
-- "isDelta").
use Rattle.std.specs.Prelude.{◌≡◌, ◌≤◌, ◌<◌, ◌+◌, ℕ, ℤ, List, ◌++◌, length, Some, None, Result, Ok, Err, codes}
use Rattle.arrow_data.specs.Column.{Column, ValueList}
use Rattle.arrow_data.specs.Listed.{listed}
use Rattle.arrow_dict.specs.Dictionaries.{placed}
use Rattle.arrow_dict.specs.declared.store.StoreFault.{StoreFault}
use Rattle.arrow_dict.specs.declared.store.StoreFault.TheVariants.{NoBase, TooLong, Memory}

-- how many values the dictionary would have with those of the column
abbrev pub count_with : ValueList → Column → ℕ
count_with d c = length d.values + length c.raw

-- the dictionary with the values of the column after its own
abbrev pub with_values : ValueList → Column → ValueList
with_values d c = record d { values = d.values ++ c.raw }

-- the values follow those of the id's dictionary, which then has at most as many as a signed 32-bit number counts
pub record IsAppended (old : List (ℤ × ValueList)) (id : ℤ) (values : Column) (new : List (ℤ × ValueList)) : Type 0 where
  pub base : ValueList
  pub there : listed old id ≡ Some base
  pub few : count_with base values ≤ 2147483647
  pub grown : new ≡ placed id (with_values base values) old

-- there is a dictionary of the id, the values would be too many, and nothing changes
pub record IsTooLong (old : List (ℤ × ValueList)) (id : ℤ) (values : Column) (new : List (ℤ × ValueList)) : Type 0 where
  pub base : ValueList
  pub there : listed old id ≡ Some base
  pub many : 2147483647 < count_with base values
  pub same : new ≡ old

-- there is a dictionary of the id, the values would not be too many, and nothing changes
pub record IsRefused (old : List (ℤ × ValueList)) (id : ℤ) (values : Column) (new : List (ℤ × ValueList)) : Type 0 where
  pub base : ValueList
  pub there : listed old id ≡ Some base
  pub few : count_with base values ≤ 2147483647
  pub same : new ≡ old

-- a result for values for an id
abbrev pub Appends : List (ℤ × ValueList) → ℤ → Column → Result (Unit {0}) StoreFault → List (ℤ × ValueList) → Type 0
Appends old id values (Ok done) new = IsAppended old id values new
Appends old id values (Err NoBase) new = (listed old id ≡ None) × (new ≡ old)
Appends old id values (Err TooLong) new = IsTooLong old id values new
Appends old id values (Err Memory) new = IsRefused old id values new

-- the number of a fault
abbrev pub number_of : StoreFault → ℕ
number_of NoBase = 1
number_of TooLong = 2
number_of Memory = 3

-- the words of a fault
abbrev pub words_of : StoreFault → List ℕ
words_of NoBase = codes "no dictionary to append to"
words_of TooLong = codes "more than 2,147,483,647 values in a dictionary"
words_of Memory = codes "out of memory"
