-- Laws of Call.
pub mod Joint
pub mod Row
pub mod Short
pub mod Standing
