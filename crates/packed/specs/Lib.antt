-- What a reader has to believe: Bits, Layout, Faults, Reading, Writing, RoundTrips.
pub mod Bits
pub mod Layout
pub mod Faults
pub mod Reading
pub mod Writing
pub mod RoundTrips
-- A fact about them that a member of `Packed` cites; the checker reads it.
pub mod Few
