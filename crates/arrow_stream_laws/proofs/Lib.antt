pub mod Chains
pub mod Columns
pub mod Lists
pub mod Parts
pub mod Texts
pub mod Lyings
pub mod Deliveries
pub mod Sending
pub mod Starts
pub mod Aligning
mod Examples
pub mod Writers
