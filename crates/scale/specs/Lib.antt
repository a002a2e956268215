pub mod Scales
pub mod Lawful
