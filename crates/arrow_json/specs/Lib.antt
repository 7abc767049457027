pub mod Kinds
pub mod Scalars
pub mod Values
pub mod Lines
pub mod Written
pub mod Laws
