pub mod Counting
pub mod Bodies
pub mod Sizes
