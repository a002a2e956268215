pub mod Message
pub mod Generates
pub mod Words
pub mod Reading
pub mod Building
pub mod Telling
pub mod Laws
