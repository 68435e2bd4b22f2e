-- Lemmas for the laws that the games keep.
pub mod Spellings
pub mod FairLetters
