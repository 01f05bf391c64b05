-- Laws of Answer.
pub mod Exactly
pub mod Wider
