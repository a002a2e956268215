pub mod Playing
pub mod Stages
pub mod Reaching
pub mod Carrying
