pub mod Inserting
pub mod Forms
pub mod Cached
pub mod Rising
pub mod Requests
pub mod Kept
