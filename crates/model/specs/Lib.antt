pub mod Names
pub mod Trees
pub mod Codes
pub mod Sheet
pub mod LineNumbers
pub mod Stored
pub mod Variables
pub mod Laws
