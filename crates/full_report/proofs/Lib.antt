pub mod Sizes
pub mod Found
pub mod Finds
pub mod Only
