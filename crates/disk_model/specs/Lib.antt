pub mod Content
pub mod Disk
pub mod MemDisk
pub mod Moments
pub mod Plan
pub mod Replay
