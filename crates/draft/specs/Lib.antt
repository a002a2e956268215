pub mod Drafts
pub mod Reading
pub mod Sections
pub mod Kept
