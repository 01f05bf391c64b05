-- What the reader's calls answer, and what its comparison takes.
pub mod Judgement
pub mod Text
pub mod Scalar
