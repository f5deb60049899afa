pub mod Marks
pub mod Bytes
pub mod Writing
pub mod Answers
