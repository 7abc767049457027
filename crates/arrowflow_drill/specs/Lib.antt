pub mod Reading
pub mod DrillOptions
pub mod Counts
pub mod Lines
pub mod Drill
