-- Words that the contracts of private functions alone use.
pub mod Answers
pub mod CommandReading
