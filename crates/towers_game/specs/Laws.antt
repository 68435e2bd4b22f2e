-- Lemmas for the laws of the traits that Towers keeps: items and cuts, steps, and texts that are read and written.
pub mod CluePart
pub mod SquarePart
pub mod SquaresWritten
pub mod TowersItems
pub mod TowersLetters
pub mod TowersReasons
pub mod TowersRefusals
pub mod TowersSameness
pub mod TowersText
pub mod TowersValues
pub mod ViewLines
