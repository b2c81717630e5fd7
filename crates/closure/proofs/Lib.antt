pub mod Gaps
pub mod Raises
pub mod Closes
pub mod Fills
pub mod Rows
