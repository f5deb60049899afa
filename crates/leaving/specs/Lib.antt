pub mod Buffer
pub mod Order
