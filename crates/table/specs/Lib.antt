pub mod Serving
pub mod Filling
