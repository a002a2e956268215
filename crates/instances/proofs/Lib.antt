pub mod Parts
pub mod Sizes
pub mod Nodes
pub mod Wholes
pub mod Fronts
