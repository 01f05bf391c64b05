-- The meaning of sheets: what is to be believed stands first, what is shown of it behind it.
pub mod Ascii
pub mod Plan
pub mod Line
pub mod Numeral
pub mod Spelling
pub mod Questions
pub mod Answer
pub mod Sound
pub mod Digits
pub mod Samples
pub mod Every
