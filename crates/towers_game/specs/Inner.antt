-- Words that the contracts of private functions alone use.
pub mod RowCache
pub mod RowSets
pub mod TowersFields
pub mod TowersLooks
