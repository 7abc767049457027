pub mod Faults
pub mod Means
pub mod Judges
pub mod Straight
pub mod Versions
pub mod Built
