pub mod Choice
pub mod Pages
pub mod Leaves
pub mod Sorting
pub mod Stable
pub mod Merging
pub mod Parts
pub mod Laid
