pub mod Align
pub mod Sent
pub mod Storable
pub mod Storing
pub mod Source
pub mod Counts
pub mod Whole
