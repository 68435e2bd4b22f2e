-- Sets of numbers, and what is said of them.
pub mod Sets
