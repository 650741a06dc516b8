pub mod Comparisons
pub mod FlushLaws
pub mod Flushing
pub mod Forms
pub mod PlainLines
pub mod Prefixes
pub mod RootFiles
pub mod RunLemmas
