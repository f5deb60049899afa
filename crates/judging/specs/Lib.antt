pub mod Answer
pub mod Judging
pub mod Files
pub mod LegalFiles
