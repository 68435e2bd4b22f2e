-- Lemmas on turns.
pub mod TurnRuns
