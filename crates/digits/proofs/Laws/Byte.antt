-- Laws of Byte.
pub mod Signed
