-- Lemmas on the program as one expression.
pub mod WholeGames
