pub mod Shapes
pub mod Forms
pub mod Whole
pub mod Apart
pub mod Spoken
pub mod Sayings
pub mod Closure
