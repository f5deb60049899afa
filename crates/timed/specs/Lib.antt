pub mod Timed
pub mod Moving
