pub mod Residue
pub mod Row
pub mod Joint
pub mod Codes
pub mod Test
pub mod NonAdjacent
