-- The definitions at values: nodes, buffers and bytes written out by hand from the standard's layouts.
use Rattle.std.proofs.Common.{◌≡◌, ℕ, true, false, [], ◌∷◌, refl, take}
use Rattle.std.specs.Prelude.{pos, negsuc, None, Some}
use Rattle.arrow_types.specs.DataType.{TypeId, null, boolean, int, large_binary, fixed_size_binary, utf8, list, struct}
use Rattle.arrow_types.specs.declared.data_type.BitWidth.TheVariants.{Eight, ThirtyTwo}
use Rattle.arrow_types.specs.Field.{FieldTree, none, more}
use Rattle.arrow_layout.specs.PlainValue.{PlainValue, null_value, bool_value, int_value, binary_value, utf8_value, list_value, struct_value, values_of}
use Rattle.arrow_body_laws.specs.Stored.{stored}
use Rattle.arrow_body_laws.specs.Size.{size_of}

-- a column of a type
abbrev column : TypeId → FieldTree → FieldTree
column tag children = more (record { name = []; nullable = true; tag = tag; encoding = None }) children none

-- a number that is not negative
abbrev number : ℕ → PlainValue
number n = int_value (pos n)

-- numbers with a null between them
numbers : stored 8 (column (int ThirtyTwo true) none) ((number 1 ∷ null_value ∷ number 3 ∷ []) ∷ []) ≡ record {
  nodes = record { length = pos 3; null_count = pos 1 } ∷ [];
  buffers = record { offset = pos 0; length = pos 1 } ∷ record { offset = pos 8; length = pos 12 } ∷ [];
  bytes = 5 ∷ 0 ∷ 0 ∷ 0 ∷ 0 ∷ 0 ∷ 0 ∷ 0 ∷ 1 ∷ 0 ∷ 0 ∷ 0 ∷ 0 ∷ 0 ∷ 0 ∷ 0 ∷ 3 ∷ 0 ∷ 0 ∷ 0 ∷ 0 ∷ 0 ∷ 0 ∷ 0 ∷ [];
}
numbers = refl

-- and how many bytes they have
numbers_size : size_of 8 (column (int ThirtyTwo true) none) ((number 1 ∷ null_value ∷ number 3 ∷ []) ∷ []) ≡ 24
numbers_size = refl

-- texts with a null between them
texts : stored 8 (column utf8 none) ((utf8_value (97 ∷ []) ∷ null_value ∷ utf8_value (98 ∷ 99 ∷ []) ∷ []) ∷ []) ≡ record {
  nodes = record { length = pos 3; null_count = pos 1 } ∷ [];
  buffers = record { offset = pos 0; length = pos 1 } ∷ record { offset = pos 8; length = pos 16 } ∷ record { offset = pos 24; length = pos 3 } ∷ [];
  bytes = 5 ∷ 0 ∷ 0 ∷ 0 ∷ 0 ∷ 0 ∷ 0 ∷ 0 ∷ 0 ∷ 0 ∷ 0 ∷ 0 ∷ 1 ∷ 0 ∷ 0 ∷ 0 ∷ 1 ∷ 0 ∷ 0 ∷ 0 ∷ 3 ∷ 0 ∷ 0 ∷ 0 ∷ 97 ∷ 98 ∷ 99 ∷ 0 ∷ 0 ∷ 0 ∷ 0 ∷ 0 ∷ [];
}
texts = refl

-- truth values, the third null
bits : stored 8 (column boolean none) ((bool_value true ∷ bool_value false ∷ null_value ∷ bool_value true ∷ []) ∷ []) ≡ record {
  nodes = record { length = pos 4; null_count = pos 1 } ∷ [];
  buffers = record { offset = pos 0; length = pos 1 } ∷ record { offset = pos 8; length = pos 1 } ∷ [];
  bytes = 11 ∷ 0 ∷ 0 ∷ 0 ∷ 0 ∷ 0 ∷ 0 ∷ 0 ∷ 9 ∷ 0 ∷ 0 ∷ 0 ∷ 0 ∷ 0 ∷ 0 ∷ 0 ∷ [];
}
bits = refl

-- a list, a null and a list without items: two items are sent
lists : stored 8 (column list (column (int ThirtyTwo true) none)) ((list_value (values_of (number 1 ∷ number 2 ∷ [])) ∷ null_value ∷ list_value (values_of []) ∷ []) ∷ []) ≡ record {
  nodes = record { length = pos 3; null_count = pos 1 } ∷ record { length = pos 2; null_count = pos 0 } ∷ [];
  buffers = record { offset = pos 0; length = pos 1 } ∷ record { offset = pos 8; length = pos 16 } ∷ record { offset = pos 24; length = pos 0 } ∷ record { offset = pos 24; length = pos 8 } ∷ [];
  bytes = 5 ∷ 0 ∷ 0 ∷ 0 ∷ 0 ∷ 0 ∷ 0 ∷ 0 ∷ 0 ∷ 0 ∷ 0 ∷ 0 ∷ 2 ∷ 0 ∷ 0 ∷ 0 ∷ 2 ∷ 0 ∷ 0 ∷ 0 ∷ 2 ∷ 0 ∷ 0 ∷ 0 ∷ 1 ∷ 0 ∷ 0 ∷ 0 ∷ 2 ∷ 0 ∷ 0 ∷ 0 ∷ [];
}
lists = refl

-- a struct and a null: the child's slot under the null is null
structs : stored 8 (column struct (column (int ThirtyTwo true) none)) ((struct_value (values_of (number 5 ∷ [])) ∷ null_value ∷ []) ∷ []) ≡ record {
  nodes = record { length = pos 2; null_count = pos 1 } ∷ record { length = pos 2; null_count = pos 1 } ∷ [];
  buffers = record { offset = pos 0; length = pos 1 } ∷ record { offset = pos 8; length = pos 1 } ∷ record { offset = pos 16; length = pos 8 } ∷ [];
  bytes = 1 ∷ 0 ∷ 0 ∷ 0 ∷ 0 ∷ 0 ∷ 0 ∷ 0 ∷ 1 ∷ 0 ∷ 0 ∷ 0 ∷ 0 ∷ 0 ∷ 0 ∷ 0 ∷ 5 ∷ 0 ∷ 0 ∷ 0 ∷ 0 ∷ 0 ∷ 0 ∷ 0 ∷ [];
}
structs = refl

-- texts without a null have no bitmap
full_texts : stored 8 (column utf8 none) ((utf8_value (100 ∷ []) ∷ utf8_value (101 ∷ []) ∷ []) ∷ []) ≡ record {
  nodes = record { length = pos 2; null_count = pos 0 } ∷ [];
  buffers = record { offset = pos 0; length = pos 0 } ∷ record { offset = pos 0; length = pos 12 } ∷ record { offset = pos 16; length = pos 2 } ∷ [];
  bytes = 0 ∷ 0 ∷ 0 ∷ 0 ∷ 1 ∷ 0 ∷ 0 ∷ 0 ∷ 2 ∷ 0 ∷ 0 ∷ 0 ∷ 0 ∷ 0 ∷ 0 ∷ 0 ∷ 100 ∷ 101 ∷ 0 ∷ 0 ∷ 0 ∷ 0 ∷ 0 ∷ 0 ∷ [];
}
full_texts = refl

-- without slots there is still the one offset
no_texts : stored 8 (column utf8 none) ([] ∷ []) ≡ record {
  nodes = record { length = pos 0; null_count = pos 0 } ∷ [];
  buffers = record { offset = pos 0; length = pos 0 } ∷ record { offset = pos 0; length = pos 4 } ∷ record { offset = pos 8; length = pos 0 } ∷ [];
  bytes = 0 ∷ 0 ∷ 0 ∷ 0 ∷ 0 ∷ 0 ∷ 0 ∷ 0 ∷ [];
}
no_texts = refl

-- offsets of 8 bytes
large_strings : stored 8 (column large_binary none) ((binary_value (7 ∷ 8 ∷ 9 ∷ []) ∷ []) ∷ []) ≡ record {
  nodes = record { length = pos 1; null_count = pos 0 } ∷ [];
  buffers = record { offset = pos 0; length = pos 0 } ∷ record { offset = pos 0; length = pos 16 } ∷ record { offset = pos 16; length = pos 3 } ∷ [];
  bytes = 0 ∷ 0 ∷ 0 ∷ 0 ∷ 0 ∷ 0 ∷ 0 ∷ 0 ∷ 3 ∷ 0 ∷ 0 ∷ 0 ∷ 0 ∷ 0 ∷ 0 ∷ 0 ∷ 7 ∷ 8 ∷ 9 ∷ 0 ∷ 0 ∷ 0 ∷ 0 ∷ 0 ∷ [];
}
large_strings = refl

-- three bytes a slot, zero bytes under a null
fixed : stored 8 (column (fixed_size_binary 3) none) ((null_value ∷ binary_value (1 ∷ 2 ∷ 3 ∷ []) ∷ []) ∷ []) ≡ record {
  nodes = record { length = pos 2; null_count = pos 1 } ∷ [];
  buffers = record { offset = pos 0; length = pos 1 } ∷ record { offset = pos 8; length = pos 6 } ∷ [];
  bytes = 2 ∷ 0 ∷ 0 ∷ 0 ∷ 0 ∷ 0 ∷ 0 ∷ 0 ∷ 0 ∷ 0 ∷ 0 ∷ 1 ∷ 2 ∷ 3 ∷ 0 ∷ 0 ∷ [];
}
fixed = refl

-- nulls have only a node
only_nulls : stored 8 (column null none) ((null_value ∷ null_value ∷ []) ∷ []) ≡ record {
  nodes = record { length = pos 2; null_count = pos 2 } ∷ [];
  buffers = [];
  bytes = [];
}
only_nulls = refl

-- a dictionary-encoded column of lists has only its indices, here of one byte
indices : stored 8 (more (record { name = []; nullable = true; tag = list; encoding = Some (record { id = pos 5; index = record { bits = Eight; signed = true }; ordered = false }) }) (column utf8 none) none)
    ((number 1 ∷ null_value ∷ number 0 ∷ []) ∷ []) ≡ record {
      nodes = record { length = pos 3; null_count = pos 1 } ∷ [];
      buffers = record { offset = pos 0; length = pos 1 } ∷ record { offset = pos 8; length = pos 3 } ∷ [];
      bytes = 5 ∷ 0 ∷ 0 ∷ 0 ∷ 0 ∷ 0 ∷ 0 ∷ 0 ∷ 1 ∷ 0 ∷ 0 ∷ 0 ∷ 0 ∷ 0 ∷ 0 ∷ 0 ∷ [];
    }
indices = refl

-- a negative number, to a multiple of 64 bytes
wide : size_of 64 (column (int Eight true) none) ((int_value (negsuc 0) ∷ []) ∷ []) ≡ 64
wide = refl

-- the first byte of it
negative : take 1 (stored 64 (column (int Eight true) none) ((int_value (negsuc 0) ∷ []) ∷ [])).bytes ≡ 255 ∷ []
negative = refl
