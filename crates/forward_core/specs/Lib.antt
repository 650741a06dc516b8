pub mod Sessions
pub mod Acts
pub mod Laws
