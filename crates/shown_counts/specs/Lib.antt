-- Counts of towers that a clue's line shows with a number in one of its squares.

-- the lines that a reason looks at, and what they show
pub mod Shown
-- words that the contracts of private functions alone use
pub mod Inner
