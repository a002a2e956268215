pub mod Shown
pub mod Lines
pub mod Split
pub mod Sofar
