pub mod Lent
pub mod Formed
pub mod Calls
pub mod Traces
pub mod Standing
pub mod inner
