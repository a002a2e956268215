pub mod Capacity
pub mod Entries
