-- The towers seen along a line, and the fillings of a line.
pub mod TowersSeen
pub mod LineFillings
-- words that the contracts of private functions alone use
pub mod Inner
