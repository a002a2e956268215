pub mod Contact
pub mod Endings
