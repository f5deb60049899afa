-- Contracts between the functions of this crate: nothing here has to be believed.
pub mod Sizes
pub mod Over
pub mod Counting
