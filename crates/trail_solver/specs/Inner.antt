-- Words that the contracts of private functions alone use.
pub mod Fields
pub mod Squares
pub mod Pairings
pub mod Among
pub mod Added
pub mod Runs
pub mod Searches
pub mod Listed
