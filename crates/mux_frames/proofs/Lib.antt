pub mod Digits
pub mod Prefixes
pub mod Shapes
pub mod Spellings
pub mod Splitting
pub mod Found
pub mod Nexts
pub mod Running
