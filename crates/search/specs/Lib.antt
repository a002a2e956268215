pub mod Rows
pub mod Canonical
pub mod Exchange
pub mod Laws
