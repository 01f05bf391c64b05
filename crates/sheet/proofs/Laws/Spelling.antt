-- Laws of Spelling.
pub mod Read
pub mod Spelled
pub mod Whole
