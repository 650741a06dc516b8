pub mod Changes
pub mod Next
pub mod Operations
pub mod Sets
pub mod Settled
pub mod Values
