pub mod Numbers
pub mod Bitmap
pub mod Offsets
pub mod AtMost
