pub mod Matching
pub mod Pieces
pub mod Parts
pub mod Ends
pub mod Names
pub mod Readings
