-- Laws of Call.
pub mod Kept
