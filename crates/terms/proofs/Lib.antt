pub mod Finding
pub mod TermWords
pub mod Standing
pub mod Magnitudes
pub mod Fields
pub mod TermShape
