pub mod Joining
pub mod Joins
pub mod Order
pub mod PathRuns
pub mod RowSteps
pub mod Steps
