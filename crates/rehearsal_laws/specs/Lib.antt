pub mod Deeds
pub mod Order
