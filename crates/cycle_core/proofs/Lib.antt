pub mod Front
pub mod Memories
pub mod Rooms
pub mod Stepping
pub mod Taking
