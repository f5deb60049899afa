pub mod Serving
pub mod Answers
pub mod Calls
pub mod Standing
pub mod Previews
pub mod inner
