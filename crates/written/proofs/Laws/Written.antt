-- Laws of Written.
pub mod Stepping
pub mod Accepted
