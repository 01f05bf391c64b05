-- Laws of Row.
pub mod Digit
pub mod Fewest
pub mod Length
pub mod Natural
pub mod Negated
pub mod Only
pub mod Value
