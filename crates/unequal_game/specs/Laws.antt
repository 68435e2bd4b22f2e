-- Lemmas for the laws of the traits that Unequal keeps: items and cuts, steps, and texts that are read and written.
pub mod GoodPieces
pub mod Letters
pub mod Neighbours
pub mod Pieces
pub mod RangeTests
pub mod SaidSigns
pub mod SignLemmas
pub mod Signs
pub mod UnequalItems
pub mod UnequalLetters
pub mod UnequalReasons
pub mod UnequalRefusals
pub mod UnequalSameness
pub mod UnequalText
pub mod UnequalValues
pub mod UnequalWritten
