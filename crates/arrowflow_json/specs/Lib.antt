pub mod Forms
pub mod Shows
pub mod Showing
pub mod Fields
pub mod SchemaLines
pub mod Messages
pub mod Tokens
pub mod Laws
