pub mod Silence
pub mod Texts
pub mod Worked
