pub mod Steps
pub mod Exchanged
pub mod Firsts
pub mod Newcomers
pub mod Invariance
