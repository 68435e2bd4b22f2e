-- Demands on the numbers of some squares, what each game demands and where, and the errors of a board.
pub mod Demands
pub mod Spots
pub mod Games
pub mod Errors
-- words that the contracts of private functions alone use
pub mod Inner
-- lemmas for the laws of the trait that the games keep
pub mod Laws
