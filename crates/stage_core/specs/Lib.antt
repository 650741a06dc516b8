pub mod Codes
pub mod Laws
pub mod Needs
pub mod Staging
pub mod Told
pub mod Turns
pub mod Work
