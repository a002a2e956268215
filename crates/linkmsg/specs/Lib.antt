pub mod Explaining
pub mod Counting
