-- Laws of Call.
pub mod Standing
pub mod Returned
pub mod Undone
