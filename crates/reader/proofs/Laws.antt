-- The theorems of this crate on which nothing in specs/ rests: a definition can be made wrong, and these refuse it.
pub mod Judgement
