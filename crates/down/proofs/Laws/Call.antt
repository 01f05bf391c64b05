-- Laws of Call.
pub mod Row
