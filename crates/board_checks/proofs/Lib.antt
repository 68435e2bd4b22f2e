-- Lemmas on repeated numbers, on fillings of the lines of clues and signs, and on grids without errors.
pub mod Clues
pub mod Fillings
pub mod LineNumbers
pub mod RepeatedNumbers
pub mod Signs
pub mod Tables
pub mod WholeGrids
