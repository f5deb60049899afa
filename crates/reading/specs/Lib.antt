pub mod Reading
pub mod Files
pub mod Answers
pub mod WriterCalls
pub mod inner
