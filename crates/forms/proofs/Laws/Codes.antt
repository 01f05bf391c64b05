-- Laws of Codes.
pub mod Next
pub mod Listed
pub mod Negated
pub mod Place
