-- Laws of Call.
pub mod Returned
pub mod Short
pub mod Standing
