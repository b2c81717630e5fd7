pub mod Cases
pub mod Judgements
pub mod Looks
pub mod Making
pub mod Pair
pub mod Shown
pub mod Steps
