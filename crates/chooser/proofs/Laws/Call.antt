-- Laws of Call.
pub mod Demand
