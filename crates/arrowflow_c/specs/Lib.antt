pub mod Owned
pub mod Cells
pub mod Columns
pub mod Lending
