pub mod Matching
pub mod Grammar
pub mod Faults
pub mod Refusals
pub mod Stretch
pub mod Reading
