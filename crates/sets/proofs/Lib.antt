pub mod Words
pub mod Pops
pub mod Counts
pub mod Backs
