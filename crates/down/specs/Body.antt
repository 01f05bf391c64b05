-- What the private contracts of the code speak of.
pub mod Ahead
pub mod Length
pub mod Window
