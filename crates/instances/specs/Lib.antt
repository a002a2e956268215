pub mod Substitution
pub mod Instances
pub mod Actions
pub mod Start
pub mod Writing
pub mod Laws
