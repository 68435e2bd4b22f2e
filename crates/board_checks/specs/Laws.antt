-- Lemmas for the laws of `Demands` that the games keep.
pub mod TwoSquares
pub mod TowersDemands
pub mod UnequalDemands
