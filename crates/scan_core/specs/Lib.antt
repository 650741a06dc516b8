pub mod Board
pub mod Codes
pub mod Ignoring
pub mod Reading
pub mod Scan
pub mod Told
pub mod Work
