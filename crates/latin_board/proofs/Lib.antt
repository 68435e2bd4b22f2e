-- Lemmas on grids, exchanges and edge places.
pub mod Counts
pub mod EdgePlaces
pub mod Exchanges
pub mod FoundNumbers
pub mod LatinLines
pub mod LatinTest
pub mod Numbers
mod Padding
pub mod PeerLines
