-- What a reader has to believe, from the first file to the last.
pub mod History
pub mod Orders
pub mod Before
pub mod Search
pub mod Opening
pub mod Calls
pub mod Worked
pub mod Theorems
