pub mod Examples
pub mod Cached
pub mod Along
pub mod Revealed
pub mod Whole
