-- Laws of Plan.
pub mod Cost
pub mod Slots
