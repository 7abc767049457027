-- Names and time zones as they are written in a line. The standard lets them hold any text, so bytes that would break
-- the line are shown by number. (This text is this project's own: the standard gives none.)
use Rattle.std.specs.Prelude.{ℕ, ◌+◌, ◌/◌, ◌%◌, Bool, ◌||◌, ◌==◌, nat_lt, if◌then◌else◌, List, [], ◌∷◌}
use Rattle.std.specs.List.{flat_map}

-- the bytes that are shown by number: those below 20 hexadecimal, 7f and the backslash
abbrev pub is_escaped : ℕ → Bool
is_escaped b = nat_lt b 32 || b == 127 || b == 92

-- a digit of a hexadecimal number: 0 to 9, a to f
abbrev pub hex_digit : ℕ → ℕ
hex_digit d = if nat_lt d 10 then 48 + d else 87 + d

-- a backslash, an x and the byte's two hexadecimal digits
abbrev pub byte_number : ℕ → List ℕ
byte_number b = 92 ∷ 120 ∷ hex_digit (b / 16) ∷ hex_digit (b % 16) ∷ []

-- one byte of a text
abbrev pub byte_text : ℕ → List ℕ
byte_text b = if is_escaped b then byte_number b else (b ∷ [])

-- a text, byte by byte
abbrev pub escaped : List ℕ → List ℕ
escaped bytes = flat_map byte_text bytes
