pub mod Laying
pub mod Served
pub mod Refusals
pub mod Steps
pub mod Bundles
pub mod Previews
