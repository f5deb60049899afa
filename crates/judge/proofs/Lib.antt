pub mod BufferLaws
pub mod FetchLaws
pub mod ClosingLaws
pub mod EntryLaws
pub mod ManyLaws
pub mod RunLaws
pub mod FileLaws
