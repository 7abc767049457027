mod Copied
pub mod OfFront
mod Equal
mod Taken
mod Pieces
mod Parts
