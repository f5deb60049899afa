pub mod Records
pub mod Fields
pub mod Cases
