-- How grades are named, lines of text, which steps are told together, what is told of them, and where a contradiction
-- ends.
pub mod DeadEnds
pub mod Groups
pub mod Headings
pub mod Letters
pub mod Lines
pub mod Looks
pub mod Told
pub mod ToldLaws
pub mod Laws
