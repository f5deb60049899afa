pub mod Cached
pub mod Sooner
pub mod Bundles
pub mod Order
pub mod Kept
pub mod Taken
