pub mod Changing
pub mod Listings
pub mod LogLaws
pub mod Pieces
pub mod StampLaws
pub mod ViewLaws
