pub mod Listed
pub mod Lines
pub mod Refusals
pub mod Replies
pub mod Reports
pub mod Rows
