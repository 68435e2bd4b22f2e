-- Lemmas for the laws of the traits that games keep: what all reasons strike, where a game's own are lawful.
pub mod Along
pub mod Cuts
pub mod Edges
pub mod Less
pub mod LineSquares
pub mod Sound
