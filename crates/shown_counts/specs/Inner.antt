-- Words that the contracts of private functions alone use.
pub mod Counted
pub mod Lone
pub mod Possible
