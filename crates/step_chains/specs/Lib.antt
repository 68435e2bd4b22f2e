-- Chains of named steps, and what is explained by them. Each file is one subject, and has definitions alone.

-- chains as lists of steps
pub mod ChainValues
-- chains that refute the numbers of a grid
pub mod Explanations
-- the next hint of a grid
pub mod NextHints
-- candidates in view of a board with pencil marks
pub mod BoardViews
-- candidates taken once more
pub mod Copies
-- squares that narrowing forces
pub mod ForcedLaws
-- words that the contracts of private functions alone use
pub mod Inner
