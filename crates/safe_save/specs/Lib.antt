-- The state that a folder tells, the effects of its calls on it, and the promises of a save.
pub mod Changes
pub mod FailedCalls
pub mod Folder
pub mod Memory
pub mod Places
pub mod Save
pub mod Targets
