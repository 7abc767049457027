pub mod Shown
pub mod Children
pub mod Sameness
pub mod Segments
pub mod Entries
pub mod Fitting
pub mod ResolvedFitting
pub mod Listings
pub mod Resolving
pub mod Again
pub mod FullSlots
pub mod Runs
pub mod SlotValues
pub mod Viewing
pub mod NodeParts
pub mod Batches
pub mod Listing
pub mod Ids
pub mod Lists
mod Blocks
mod OnlyChild
