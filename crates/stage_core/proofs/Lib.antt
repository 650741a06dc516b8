mod Accounts
mod Few
mod Following
mod Passing
pub mod Pending
mod Pieces
mod Runs
mod Stopping
mod Telling
mod Whole
