pub mod Bits
pub mod Sets
pub mod Rows
