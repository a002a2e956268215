pub mod Positive
pub mod Enemy
pub mod Steps
pub mod Verdicts
pub mod Readings
pub mod Worked
