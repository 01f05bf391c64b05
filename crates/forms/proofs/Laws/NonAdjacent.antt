-- Laws of NonAdjacent.
pub mod Row
