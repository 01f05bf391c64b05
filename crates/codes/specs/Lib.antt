pub mod Call
pub mod Samples
pub mod Body
