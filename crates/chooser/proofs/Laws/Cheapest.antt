-- Laws of Cheapest.
pub mod Lists
pub mod Least
pub mod Order
pub mod Sheet
pub mod Signs
