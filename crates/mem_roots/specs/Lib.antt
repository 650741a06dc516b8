pub mod Codes
pub mod MemRoot
pub mod Named
pub mod Runs
pub mod Sharing
pub mod Sizes
pub mod Staging
pub mod Stamps
