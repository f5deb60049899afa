pub mod Serving
pub mod Numbers
pub mod QuickLaws
