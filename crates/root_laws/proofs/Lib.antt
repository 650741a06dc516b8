pub mod Beginnings
pub mod Below
pub mod Keeping
pub mod Listing
pub mod OnePath
pub mod Piecing
pub mod Stamping
pub mod Viewing
