pub mod Ranks
pub mod Conditions
pub mod Laws
pub mod Pieces
pub mod Matching
pub mod Ranking
pub mod Stacks
pub mod PieceBytes
