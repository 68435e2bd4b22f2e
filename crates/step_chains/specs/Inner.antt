-- Words that the contracts of private functions alone use.
pub mod Views
pub mod Replays
pub mod Tight
pub mod Goals
pub mod Aims
pub mod Listed
pub mod Quiet
pub mod FromEachView
