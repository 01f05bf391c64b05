-- Laws of Call.
pub mod Returned
pub mod Ordered
