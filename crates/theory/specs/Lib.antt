pub mod Farthest
pub mod Loads
pub mod Possible
pub mod Factor
pub mod Age
