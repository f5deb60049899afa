pub mod Whole
pub mod CountLaws
pub mod ListLaws
pub mod CallLaws
pub mod More
pub mod Moved
pub mod Runs
pub mod Prefix
