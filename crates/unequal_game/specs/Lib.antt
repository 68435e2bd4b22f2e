-- The words of Unequal's contracts. Each of the files here is one subject, and has definitions alone.

-- the puzzles: what they are, which grids hold their signs, and their items
pub mod Unequal
-- what signs strike
pub mod UnequalReasons
-- the description: its grammar, the form that is written, and what is read
pub mod UnequalText
-- words that the contracts of private functions alone use
pub mod Inner
-- lemmas for the laws of the traits that Unequal keeps: items and cuts, steps, and texts that are read and written
pub mod Laws
