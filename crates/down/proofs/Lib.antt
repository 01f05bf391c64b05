-- Laws that the functions' proofs cite.
pub mod FourBytes
pub mod UsedBytes
pub mod BitLength
pub mod WindowSize
pub mod AheadBits
pub mod TurnedBits
pub mod Reading
pub mod HeldBits
pub mod DigitPlaces
pub mod Turns
pub mod DownLoop
pub mod Laws
