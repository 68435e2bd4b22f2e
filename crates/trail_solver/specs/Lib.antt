-- Pairs and candidates, puzzles and their solutions, answers and listings.
pub mod Pairs
pub mod Candidates
pub mod Puzzles
pub mod Items
pub mod Solutions
pub mod Answers
pub mod Completions
pub mod Listings
-- words that the contracts of private functions alone use
pub mod Inner
