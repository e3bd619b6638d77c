pub mod Prelude
pub mod Ends
pub mod Pairs
pub mod Plays
pub mod Moves
