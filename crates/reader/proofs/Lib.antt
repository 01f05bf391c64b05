-- Laws that the functions' proofs cite.
pub mod LimbTurns
pub mod TextTurns
pub mod Laws
