pub mod Changed
pub mod Body
pub mod Samples
