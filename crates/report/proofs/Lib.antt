mod FiguresLaws
pub mod Prefix
pub mod Cases
