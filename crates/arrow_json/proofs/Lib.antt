mod DecimalNumbers
mod Asciis
mod Reals
mod Joining
pub mod Rows
mod ReadBack
mod OneLine
