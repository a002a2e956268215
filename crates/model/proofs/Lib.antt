pub mod Naming
pub mod Standings
pub mod Trees
pub mod Counting
