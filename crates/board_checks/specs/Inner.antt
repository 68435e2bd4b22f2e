-- Words that the contracts of private functions alone use.
pub mod Repeats
pub mod TowersLines
pub mod SignEnds
