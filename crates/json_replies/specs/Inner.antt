-- Words that the contracts of private functions alone use.
pub mod ObjectMembers
pub mod WrittenData
pub mod ToldResponses
pub mod Marks
