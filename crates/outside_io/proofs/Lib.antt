pub mod Counting
pub mod LinesLemmas
pub mod PiecesLemmas
pub mod Ranges
pub mod Sent
pub mod SkipLemmas
pub mod TakingLemmas
pub mod Turns
