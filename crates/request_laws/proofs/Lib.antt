pub mod Giving
pub mod Spelled
pub mod Words
