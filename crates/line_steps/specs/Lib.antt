-- The strikes of steps, and the candidates that they leave. Each file is one subject, with definitions alone.

-- the squares that are looked at from the edges of a grid
pub mod Views
-- the pairs that are left of candidates, puzzles of givens alone, and what each reason strikes
pub mod Left
pub mod Givens
pub mod Reasons
-- which reasons a grade has; steps, chains of them, and what they lead to
pub mod Grades
pub mod Chains
-- what a grade leaves, and what narrowing rules out
pub mod Settled
pub mod Struck
-- along which line a clue or a sign looks, what goes from its squares, and what is taken from candidates
pub mod Along
pub mod Takes
-- words that the contracts of private functions alone use
pub mod Inner
-- lemmas for the laws of the traits that games keep
pub mod Laws
