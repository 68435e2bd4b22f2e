-- The words of the crate's contracts. Each of the files here is one subject, and has definitions alone.

-- the refusals by number and name, and the texts of moves
pub mod Faults
pub mod MoveTexts
-- what a session keeps for a save
pub mod Extras
-- one move on a board, the value of a session with what each call makes of it, and moves played in turn
pub mod Steps
pub mod Histories
pub mod MoveLists
-- what the two flags of a board mean
pub mod Flags
-- the laws of a session's calls
pub mod Laws
-- words that the invariants and the contracts of private functions alone use
pub mod Inner
