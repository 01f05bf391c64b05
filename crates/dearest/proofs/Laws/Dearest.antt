-- Laws of Dearest.
pub mod Closed
pub mod Order
pub mod Tried
pub mod Weight
