-- Laws of Scalar.
pub mod Signed
