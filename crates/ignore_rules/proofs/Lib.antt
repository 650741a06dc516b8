pub mod Deciding
pub mod ReadingRules
pub mod Texts
pub mod Folders
