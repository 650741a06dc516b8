pub mod Laws
pub mod Staged
pub mod Taking
pub mod Turns
pub mod Undisturbed
