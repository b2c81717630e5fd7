-- What a reader has to believe: Words, Piles.
pub mod Words
pub mod Piles
