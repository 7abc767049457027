pub mod Widths
pub mod Values
pub mod Cuts
pub mod Indices
mod LowBits
mod ReadBack
mod SignedNumbers
mod Widened
