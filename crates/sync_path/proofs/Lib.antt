pub mod Buffers
pub mod BufferParts
pub mod Lengths
pub mod Ends
pub mod TextParts
pub mod Texts
pub mod Intervals
pub mod Below
