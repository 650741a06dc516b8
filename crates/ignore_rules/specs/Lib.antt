pub mod Vcs
pub mod Rules
pub mod Refusals
