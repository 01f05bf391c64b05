pub mod Dearest
pub mod Bytes
pub mod Body
pub mod Call
pub mod Samples
