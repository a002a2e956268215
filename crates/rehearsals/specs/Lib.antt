pub mod Boards
pub mod Rehearsals
