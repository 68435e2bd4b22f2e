-- Lemmas on counts that are shown.
pub mod CountLemmas
pub mod LoneNumbers
pub mod PossibleCounts
pub mod ShownRows
