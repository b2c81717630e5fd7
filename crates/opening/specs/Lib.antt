-- What a reader has to believe, from the first file to the last.
pub mod Faults
pub mod Checks
pub mod Opens
