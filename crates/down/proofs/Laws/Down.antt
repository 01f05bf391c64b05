-- Laws of Down.
pub mod Settled
pub mod Places
pub mod Row
pub mod Trimmed
