-- Lemmas for the laws of the trait that both games keep.
pub mod ToldByCounts
