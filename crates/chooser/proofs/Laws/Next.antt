-- Laws of Next.
pub mod First
pub mod Promised
