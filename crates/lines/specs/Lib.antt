-- What the numbers, points, headers and lines of the code stand for.
pub mod Coded
pub mod Short
