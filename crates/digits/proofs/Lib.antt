-- Laws that the functions' proofs cite.
pub mod Negative
pub mod Laws
