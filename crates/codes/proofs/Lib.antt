pub mod Coded
pub mod Laws
