pub mod Exact
pub mod ExactFiles
pub mod Order
pub mod Examples
pub mod Numbers
