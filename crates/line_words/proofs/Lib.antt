pub mod Cutting
pub mod Numbers
pub mod ReadBack
pub mod Spellings
pub mod Unescaping
