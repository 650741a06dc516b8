pub mod Answering
pub mod Expecting
pub mod Folds
pub mod Ledgers
pub mod ListedRows
pub mod PathsKept
pub mod Stagings
pub mod TreesKept
