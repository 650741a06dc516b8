pub mod Constructors
pub mod MapLoops
pub mod SortedLists
pub mod TreeMaps
