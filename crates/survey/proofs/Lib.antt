-- Laws that the functions' proofs cite.
pub mod TableRead
pub mod Taken
pub mod HeaderTurns
pub mod PhaseTurns
pub mod StateTurns
pub mod Digits
pub mod TotalTurns
pub mod ScanTurns
pub mod Judged
pub mod Laws
