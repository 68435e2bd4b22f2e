-- Words that the contracts of private functions alone use.
pub mod ChangedLines
pub mod Filled
pub mod Groups
pub mod LineLooks
pub mod LineSets
pub mod LineStrikes
pub mod LineTallies
pub mod Narrowing
pub mod ReasonsAlong
pub mod ViewSquares
