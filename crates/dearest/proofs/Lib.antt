pub mod PairBytes
pub mod Laws
