-- Contracts between the functions of this crate: nothing here has to be believed.
pub mod Ready
pub mod Cases
pub mod Telling
