pub mod Orders
pub mod Additions
pub mod Lines
pub mod Turns
pub mod Laws
