pub mod Reaching
pub mod Handing
pub mod Made
pub mod Whole
pub mod Cutting
