pub mod OneTree
pub mod Rows
pub mod Layers
pub mod Spots
pub mod Ending
pub mod Pairs
pub mod Roots
pub mod NthField
