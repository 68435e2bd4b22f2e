-- Lemmas on orders, squares of three orders, and what is pruned and generated.
pub mod OrderPlaces
pub mod CombinedSquares
pub mod OnePruned
pub mod GeneratedOnce
