pub mod Chains
pub mod Slots
pub mod Bits
