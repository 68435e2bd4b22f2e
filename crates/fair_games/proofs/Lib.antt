pub mod Trials
pub mod RowSteps
pub mod FullGivens
pub mod PruneSteps
pub mod FairSteps
pub mod TriedFirst
