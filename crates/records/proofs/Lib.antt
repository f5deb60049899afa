pub mod Lengths
pub mod Writing
pub mod Marks
pub mod Files
