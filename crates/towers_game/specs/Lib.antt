-- The words of Towers' contracts. Each of the files here is one subject, and has definitions alone.

-- the puzzles: what they are, which grids meet their clues, and their items
pub mod Towers
-- the lines of squares that a clue allows, and what clues strike by them
pub mod Fillings
pub mod TowersReasons
-- what may stand in the squares from a clue, as a row of sets
pub mod Rows
-- the description: its grammar, the form that is written, and what is read
pub mod TowersText
-- words that the contracts of private functions alone use
pub mod Inner
-- lemmas for the laws of the traits that Towers keeps: items and cuts, steps, and texts that are read and written
pub mod Laws
