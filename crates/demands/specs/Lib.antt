pub mod LayersCalls
pub mod Rules
pub mod Runs
pub mod Demand3
pub mod Cases
