pub mod Joining
pub mod Written
mod Chunked
mod Digits
mod Numerals
pub mod LastDigits
mod DecimalTexts
mod WideNumbers
mod UnitTexts
mod FloatTexts
mod Making
mod Nested
pub mod Naming
pub mod Some
