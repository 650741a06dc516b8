pub mod Calls
pub mod Draws
pub mod Identifiers
pub mod Lines
pub mod MemInput
pub mod MemOutput
pub mod Reading
pub mod Taking
