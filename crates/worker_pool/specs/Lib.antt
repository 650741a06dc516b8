pub mod IdleMap
pub mod IdleRow
pub mod Order
pub mod ReadyPass
pub mod Work
