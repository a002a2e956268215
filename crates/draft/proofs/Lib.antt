pub mod Casts
pub mod Ranking
