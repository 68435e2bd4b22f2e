-- Words that the contracts of private functions alone use.
pub mod SignEnds
pub mod SignLooks
pub mod UnequalFields
pub mod UnequalItems
pub mod UnequalPieces
