mod Chars
mod Windows
mod WindowText
mod WindowReported
pub mod Found
mod Indented
pub mod Growing
mod Lacking
pub mod Sent
pub mod Lined
pub mod Reported
pub mod Messages
mod Chosen
mod Quiet
pub mod Reporting
pub mod OfFront
mod Bounding
