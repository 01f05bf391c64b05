-- Laws of Changed.
pub mod Costs
pub mod Listed
