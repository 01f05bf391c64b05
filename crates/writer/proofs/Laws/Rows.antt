-- Laws of Rows.
pub mod Made
