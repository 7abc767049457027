pub mod Dictionaries
pub mod Appends
pub mod Places
pub mod ValueTypes
pub mod ValueFields
pub mod Laws
pub mod Choice
pub mod Tracking
