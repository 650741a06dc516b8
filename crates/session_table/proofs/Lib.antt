pub mod Changing
pub mod Distinct
pub mod Indexed
pub mod Lookups
pub mod Names
pub mod Repeated
pub mod Sound
