pub mod Traces
pub mod Calls
pub mod inner
