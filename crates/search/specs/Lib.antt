pub mod Tree
pub mod Walks
pub mod Searches
