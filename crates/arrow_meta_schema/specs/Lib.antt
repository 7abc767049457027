pub mod SchemaMeaning
pub mod Conditions
pub mod Sharing
pub mod Builds
