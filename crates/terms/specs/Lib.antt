pub mod Terms
pub mod Usages
pub mod Same
pub mod Outcomes
pub mod Scopes
