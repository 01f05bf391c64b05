-- The theorems of this crate on which nothing in specs/ rests: a definition can be made wrong, and these refuse it.
pub mod Cheapest
pub mod Costs
pub mod Samples
pub mod Call
pub mod Demand3
pub mod Next
pub mod Promise
