pub mod Escapes
pub mod Lines
pub mod Refusals
pub mod Replies
pub mod Rows
pub mod Sums
pub mod Told
pub mod Values
