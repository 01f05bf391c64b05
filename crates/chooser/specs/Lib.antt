pub mod Lexicographic
pub mod Numbers
pub mod Cheapest
pub mod Candidate
pub mod Samples
pub mod Call
pub mod Next
pub mod Body
