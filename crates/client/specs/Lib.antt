-- the puzzles of the game, and the text that describes one
pub mod Latin
-- the laws that the game owes
pub mod LatinItems
pub mod LatinTexts
-- what its steps strike, and their laws
pub mod LatinSteps
-- what the sink is
pub mod Devices
