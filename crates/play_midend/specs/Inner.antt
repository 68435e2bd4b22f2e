-- Words that the invariants and the contracts of private functions alone use.
pub mod Links
pub mod Effects
