pub mod LayersLists
pub mod Rules
pub mod Runs
pub mod Compared
mod Cases
