use Rattle.std.proofs.Common.{codes, rules, to_z, of_z, w8, refl, ◌≡◌, ◌≤◌, ◌-◌, ◌^◌, ◌++◌, List, ℕ, length, Some, arith, ap, ◌∙◌, sym, subst, string_bytes}
use Rattle.arrow_types.specs.DataType as tags
use Rattle.std.specs.Fmt.{decimal, signed_decimal}
use Rattle.arrowflow_text.specs.TypeWords.{format_width}
use Rattle.arrow_types.specs.DataType.{TypeId, fixed_size_binary, fixed_size_list, timestamp}
use Rattle.arrow_types.specs.View.{type_view}
use Rattle.arrow_types.specs.declared.field.DataType.{the_lemmas}
use Rattle.arrowflow_calls.specs.declared.pens.TextPen.{TextPen}
use Rattle.arrowflow_calls.specs.Pens.{Puts}
use Rattle.arrowflow_calls.proofs.Writing.{puts_more}
use Rattle.arrowflow_calls.proofs.formats.put_type.Goals as goal
use Rattle.arrowflow_text.specs.TypeWords.{format_end, format_of, words_of}

-- a width, a size or a time zone was put after the fixed text
puts_end : (old between new : List ℕ) (p q s : TextPen) (tag : TypeId) (front end : List ℕ) → length old ≤ 2 ^ 64 - 1 → front ≡ (words_of tag).format → end ≡ format_end tag
    → Puts old p front q between → Puts between q end s new → Puts old p (format_of tag) s new
puts_end old between new p q s tag front end fits at_front at_end first then =
    let whole : front ++ end ≡ format_of tag = ap (λ (l : List ℕ). l ++ end) at_front ∙ ap (λ (l : List ℕ). (words_of tag).format ++ l) at_end in
    subst (λ text. Puts old p text s new) whole (puts_more old between new p q s front end fits first then)

pub returns-in-Decimal : goal.returns-in-Decimal
returns-in-Decimal c =
    let tag : TypeId = (type_view c.args.data_type.now).tag in
    let it = c.in-Decimal in
    let is : tag ≡ tags.decimal it.width it.precision it.scale = search (rules, the_lemmas) in
    let same : to_z w8 (of_z w8 it.scale) ≡ it.scale = search rules in
    let first : Puts c.put-pen.new.room c.put-pen.result (decimal it.precision ++ codes "," ++ signed_decimal it.scale) c.put_digits.result c.put_digits.new.room =
    subst (λ z. Puts c.put-pen.new.room c.put-pen.result (decimal it.precision ++ codes "," ++ signed_decimal z) c.put_digits.result c.put_digits.new.room) same c.put_digits.ensures in
    let digits = decimal it.precision ++ codes "," ++ signed_decimal it.scale in
    let ends : digits ++ format_width it.width ≡ format_end tag = search (rules, is) in
    let last : Puts c.put_digits.new.room c.put_digits.result (format_width it.width) c.put.result c.put.new.room =
    subst (λ text. Puts c.put_digits.new.room c.put_digits.result text c.put.result c.put.new.room) (c.as_bytes-in-Decimal.ensures.value ∙ c.format_width.ensures) c.put.ensures.puts in
    let rest : Puts c.put-pen.new.room c.put-pen.result (format_end tag) c.put.result c.put.new.room =
    subst (λ text. Puts c.put-pen.new.room c.put-pen.result text c.put.result c.put.new.room) ends
    (puts_more c.put-pen.new.room c.put_digits.new.room c.put.new.room c.put-pen.result c.put_digits.result c.put.result digits (format_width it.width) (search rules) first last) in
    puts_end c.args.room.now c.put-pen.new.room c.put.new.room c.args.pen c.put-pen.result c.put.result tag c.as_bytes.result.now (format_end tag)
    (omega (arith, c.put-pen.ensures.fits)) (c.as_bytes.ensures.value ∙ c.words_of.ensures.format) refl c.put-pen.ensures.puts rest

pub returns-in-FixedSizeBinary : goal.returns-in-FixedSizeBinary
returns-in-FixedSizeBinary c =
    let tag : TypeId = (type_view c.args.data_type.now).tag in
    let is : tag ≡ fixed_size_binary c.in-FixedSizeBinary.width = search (rules, the_lemmas) in
    let end = c.as_bytes-in-FixedSizeBinary in
    puts_end c.args.room.now c.put-pen.new.room c.put-in-FixedSizeBinary.new.room c.args.pen c.put-pen.result c.put-in-FixedSizeBinary.result tag c.as_bytes.result.now end.result.now
    (omega (arith, c.put-pen.ensures.fits)) (c.as_bytes.ensures.value ∙ c.words_of.ensures.format)
    (end.ensures.value ∙ c.format.ensures.text ∙ sym (ap format_end is)) c.put-pen.ensures.puts c.put-in-FixedSizeBinary.ensures.puts

pub returns-in-FixedSizeList : goal.returns-in-FixedSizeList
returns-in-FixedSizeList c =
    let tag : TypeId = (type_view c.args.data_type.now).tag in
    let is : tag ≡ fixed_size_list c.in-FixedSizeList.size = search (rules, the_lemmas) in
    let end = c.as_bytes-in-FixedSizeList in
    puts_end c.args.room.now c.put-pen.new.room c.put-in-FixedSizeList.new.room c.args.pen c.put-pen.result c.put-in-FixedSizeList.result tag c.as_bytes.result.now end.result.now
    (omega (arith, c.put-pen.ensures.fits)) (c.as_bytes.ensures.value ∙ c.words_of.ensures.format)
    (end.ensures.value ∙ c.format-in-FixedSizeList.ensures.text ∙ sym (ap format_end is)) c.put-pen.ensures.puts c.put-in-FixedSizeList.ensures.puts

pub returns-in-Timestamp-default-Some : goal.returns-in-Timestamp-default-Some
returns-in-Timestamp-default-Some c =
    let tag : TypeId = (type_view c.args.data_type.now).tag in
    let it = c.in-Timestamp-default-Some in
    let is : tag ≡ timestamp it.field-0 (Some (string_bytes it.zone)) = search (rules, the_lemmas) in
    let end = c.as_bytes-in-Timestamp-default-Some in
    let put = c.put-in-Timestamp-default-Some in
    puts_end c.args.room.now c.put-pen.new.room put.new.room c.args.pen c.put-pen.result put.result tag c.as_bytes.result.now end.result.now
    (omega (arith, c.put-pen.ensures.fits)) (c.as_bytes.ensures.value ∙ c.words_of.ensures.format)
    (end.ensures.value ∙ sym (ap format_end is)) c.put-pen.ensures.puts put.ensures.puts
