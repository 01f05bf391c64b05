pub mod Packing
pub mod Call
pub mod Body
pub mod Samples
