pub mod Posts
pub mod Calls
pub mod Moves
pub mod Steps
pub mod Laws
