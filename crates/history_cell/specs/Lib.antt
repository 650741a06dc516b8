pub mod History
pub mod Tickets
pub mod Steps
pub mod Passes
