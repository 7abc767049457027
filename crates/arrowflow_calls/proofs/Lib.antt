pub mod Surveying
pub mod Counting
pub mod Pairing
pub mod Writing
pub mod Blaming
