-- Seeded squares and orders, the pruned puzzle of a square, what is generated, and the faults.
pub mod Orders
pub mod SeededSquares
pub mod Pruning
pub mod GenFaults
pub mod Generating
-- words that the contracts of private functions alone use
pub mod Inner
