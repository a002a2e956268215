pub mod Pads
pub mod Kept
pub mod Appending
