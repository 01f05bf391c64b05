-- The theorems of this crate on which nothing in specs/ rests: a definition can be made wrong, and these refuse it.
pub mod Spelling
pub mod Answer
pub mod Digits
pub mod Plan
pub mod Promise
