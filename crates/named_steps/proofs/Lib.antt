pub mod Antitone
pub mod Shown
pub mod Kept
pub mod Followed
pub mod Parts
pub mod Solutions
