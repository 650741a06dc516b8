pub mod Courses
pub mod Order
pub mod Resting
pub mod Stepping
