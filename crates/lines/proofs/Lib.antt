-- Laws that the functions' proofs cite.
pub mod AsRead
pub mod PointRead
pub mod HeaderRead
pub mod LineRead
pub mod ShortRead
pub mod LineAt
pub mod FirstLine
pub mod Was
