-- Laws of Joint.
pub mod Digit
pub mod Rule
pub mod Fewest
pub mod Length
pub mod Negated
pub mod Sparse
pub mod Unique
pub mod Value
pub mod Zeros
