pub mod Least
pub mod OneAnswer
pub mod OneEnd
pub mod Decoding
pub mod Counting
pub mod Straight
