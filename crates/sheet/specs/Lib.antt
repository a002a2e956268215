pub mod Sheets
pub mod Kept
pub mod Codes
