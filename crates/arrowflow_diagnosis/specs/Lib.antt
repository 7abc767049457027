pub mod Prefix
pub mod Cut
pub mod Places
pub mod Message
pub mod Rows
pub mod Fields
pub mod Rejection
pub mod Holds
