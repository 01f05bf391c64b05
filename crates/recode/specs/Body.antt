-- What the private contracts of the code speak of.
pub mod Remainder
pub mod Table
pub mod Sign
