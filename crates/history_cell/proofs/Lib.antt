pub mod Counts
pub mod Histories
pub mod Keeps
pub mod Turn
pub mod Crossing
