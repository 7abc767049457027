pub mod Asked
pub mod Report
pub mod Running
