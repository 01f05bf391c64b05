-- Laws of Order.
pub mod Demand
