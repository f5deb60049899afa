pub mod Formed
pub mod Calls
pub mod Questions
pub mod LowestLayer
pub mod Traces
pub mod inner
