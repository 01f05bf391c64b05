-- Laws of Buffer.
pub mod Read
