-- Words that the contracts of private functions alone use.
pub mod LineBuffer
pub mod Steps
pub mod WordReading
