pub mod Agreed
pub mod Folds
pub mod Frames
pub mod Heads
pub mod LineText
pub mod Payloads
pub mod Reading
