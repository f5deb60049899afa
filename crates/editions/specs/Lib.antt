pub mod Editions
pub mod Longest
pub mod Calls
pub mod TwoEditions
pub mod inner
