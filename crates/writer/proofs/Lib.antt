-- The laws that the proofs of the functions cite.
pub mod Puts
pub mod Drafts
pub mod DigitBytes
pub mod Hexadecimal
pub mod StepBytes
pub mod TableBytes
pub mod MovesLoop
pub mod SheetBytes
pub mod Signs
pub mod DigitRows
pub mod PlanAnswers
pub mod Laws
