pub mod Packed
pub mod Raws
pub mod Stored
pub mod Size
pub mod Entries
pub mod Formed
pub mod Canonical
pub mod Laws
