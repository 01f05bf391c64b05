pub mod Lines
pub mod Hexadecimal
pub mod Orders
pub mod Printed
pub mod Laws
