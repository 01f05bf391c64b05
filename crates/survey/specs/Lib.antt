-- What the pass over a sheet answers, and what its state and its sums stand for.
pub mod Question
pub mod Sum
pub mod Survey
