-- Lemmas for the laws of games: texts that are read and written.
pub mod Exactly
pub mod NotForMemory
pub mod Refusals
