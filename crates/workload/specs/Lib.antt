pub mod Names
pub mod Script
