-- Chains of named steps, and what follows by a grade. Each file is one subject, and has definitions alone.

-- goals of chains of steps, and hints that explain
pub mod Chains
-- grids that follow by a grade, and boards that it refutes
pub mod Following
-- which puzzles follow by a grade, and the least of them
pub mod Graded
-- the laws of named steps
pub mod StepLaws
-- words that the contracts of private functions alone use
pub mod Inner
