pub mod Order
pub mod Samples
