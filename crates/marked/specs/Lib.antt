pub mod Buffer
pub mod Inner
