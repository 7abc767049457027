pub mod Packing
pub mod Part
pub mod Tally
pub mod Runs
pub mod Slice
pub mod Marks
pub mod Spans
pub mod Offsets
