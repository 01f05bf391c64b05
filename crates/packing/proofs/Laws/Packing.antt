-- Laws of Packing.
pub mod Back
