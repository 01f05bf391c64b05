-- The theorems of this crate on which nothing in specs/ rests: a definition can be made wrong, and these refuse it.
pub mod Codes
pub mod Joint
pub mod NonAdjacent
pub mod Promise
pub mod Row
