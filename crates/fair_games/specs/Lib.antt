-- The promise of a fair game, and then the format: which of these games a size, a grade and a seed give. Each file is one
-- subject, and has definitions alone.

-- the promise of each fair game
pub mod FairGames
-- the letters of the grades, which sizes and grades are offered, and the faults
pub mod Letters
pub mod Offers
pub mod FairFaults
-- the format: the pruned puzzle of a square, an order and a test; the stream of a game, and the squares and orders that
-- are drawn from it; the first draw that gives a game; and a law of the pruned puzzle
pub mod Pruned
pub mod Squares
pub mod Draws
pub mod Fair
pub mod FairLaws
-- lemmas for the laws of the trait that both games keep
pub mod Laws
