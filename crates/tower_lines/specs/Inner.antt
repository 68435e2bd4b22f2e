-- Words that the contracts of private functions alone use.
pub mod LineMasks
pub mod MaskSets
pub mod Levels
