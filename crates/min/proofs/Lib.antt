pub mod Model
pub mod Turn
pub mod Refused
pub mod ReadBack
pub mod Written
pub mod Examples
