pub mod Choice
pub mod Pages
pub mod Places
pub mod Sorting
