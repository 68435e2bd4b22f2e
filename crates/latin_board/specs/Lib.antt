-- Grids, lines, marks, boards, changes and edge places as values.
pub mod Squares
pub mod Lines
pub mod Marks
pub mod Boards
pub mod Changes
pub mod Edges
pub mod Sameness
-- what the fields of the types keep of them
pub mod Inner
