-- Laws of Digits.
pub mod Accepted
