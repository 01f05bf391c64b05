pub mod Call
pub mod Body
