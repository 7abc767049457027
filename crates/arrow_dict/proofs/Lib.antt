pub mod Placing
pub mod Places
pub mod Appending
pub mod Naming
pub mod Kept
pub mod Merging
pub mod Choosing
