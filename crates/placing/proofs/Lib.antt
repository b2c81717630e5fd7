pub mod Choosing
pub mod Following
