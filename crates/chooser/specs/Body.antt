-- What the private contracts of the code speak of.
pub mod Sizes
pub mod Choice
pub mod BySlots
