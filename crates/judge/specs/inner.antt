-- Contracts between the functions of this crate: nothing here has to be believed.
pub mod Fetches
pub mod Many
pub mod Places
pub mod Verdicts
