pub mod FiniteMap
pub mod InOneOrder
pub mod Working
