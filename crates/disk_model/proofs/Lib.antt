pub mod Growing
pub mod Moments
pub mod Overwriting
pub mod Replaying
pub mod Tearing
