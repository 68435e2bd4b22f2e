-- Which items of a puzzle are needed, and which are left when they are tried in turn.
pub mod Needed
pub mod InTurn
