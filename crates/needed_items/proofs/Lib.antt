-- Lemmas on the laws of items, on second solutions, and on items that are tried in turn.
pub mod ItemLaws
pub mod SecondSolutions
pub mod InTurn
