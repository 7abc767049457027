pub mod Taking
pub mod Types
pub mod Columns
pub mod Building
pub mod Least
pub mod Readings
pub mod Inside
