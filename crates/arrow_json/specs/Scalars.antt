-- The JSON of numbers and of bytes (RFC 8259, sections 6 and 7). For a value that is not a JSON number it is a string
-- with the text of the value in a record of comma-separated values.
use Rattle.std.specs.Prelude.{◌≡◌, ℕ, ℤ, pos, List, None, Some}
use Rattle.std.specs.Bool.{MatchBool}
use Rattle.std.specs.Float as floats
use Rattle.std.specs.Float.{Format, float_is_finite}
use Rattle.std.specs.Float.Parse.{parse_float}
use Rattle.hex.specs.Hex.{encode_lower}
use Rattle.json.specs.Json.{Json, number, string}
use Rattle.json.specs.Print.{IsNumber}
use Rattle.ryu.specs.Plain.{word_of}
use Rattle.arrow_layout.specs.Decimals.{decimal_of_bytes, unscaled_of}
use Rattle.arrow_layout.specs.Intervals.{interval_of_bytes}
use Rattle.arrow_layout.specs.Floats.{bits_in, number_of}
use Rattle.arrow_csv.specs.Decimals.{decimal_text}
use Rattle.arrow_csv.specs.Floats.{text_format}
use Rattle.arrow_csv.specs.Intervals.{interval_text, months_text}
use Rattle.arrow_json.specs.declared.kind.JsonKind.{JsonKind}
use Rattle.arrow_json.specs.declared.kind.JsonKind.TheVariants.{Float, Decimal, Interval, Plain}

-- a JSON number that parses as this one (IEEE 754, 5.12.2)
abbrev pub ReadsBack : Format → floats.Float → Json → Type 0
ReadsBack format x json = (text : List ℕ) × (json ≡ number text) × IsNumber text × (parse_float format text ≡ Some x)

-- the JSON of a floating-point number: JSON has neither NaN nor infinities, so these are strings
abbrev pub IsFloatJson : Format → floats.Float → Json → Type 0
IsFloatJson format x json = MatchBool (float_is_finite x) (ReadsBack format x json) (json ≡ string (word_of x))

-- the JSON of a number of this kind: the digits of a whole number, the text of an interval, which is that many months
abbrev pub IsNumberJson : JsonKind → ℤ → Json → Type 0
IsNumberJson (Float precision) z json = IsFloatJson (text_format precision) (number_of precision (bits_in z)) json
IsNumberJson (Decimal scale) z json = json ≡ number (decimal_text scale z)
IsNumberJson (Interval unit) z json = json ≡ string (months_text z)
IsNumberJson Plain z json = json ≡ number (decimal_text (pos 0) z)

-- the JSON of bytes of this kind: for a decimal a number, for an interval its text, for any other kind their
-- hexadecimal digits
abbrev pub bytes_json : JsonKind → List ℕ → Json
bytes_json (Float precision) bytes = string (encode_lower bytes)
bytes_json (Decimal scale) bytes = elim (decimal_of_bytes scale bytes) [ None ↦ string (encode_lower bytes) | Some decimal ↦ number (decimal_text decimal.scale (unscaled_of decimal)) ]
bytes_json (Interval unit) bytes = elim (interval_of_bytes unit bytes) [ None ↦ string (encode_lower bytes) | Some interval ↦ string (interval_text interval) ]
bytes_json Plain bytes = string (encode_lower bytes)
