pub mod Lines
pub mod Numbers
pub mod Placed
pub mod Places
pub mod Spelling
pub mod Steps
