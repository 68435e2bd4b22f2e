-- Lemmas on the texts of save files.
pub mod KeyLaws
pub mod RecordLaws
pub mod NextRecord
pub mod RecordLists
pub mod Meeting
pub mod RightLists
pub mod ReadingOn
pub mod Counting
pub mod GameTexts
pub mod StatesPlayed
pub mod SavedTaken
pub mod SavedAgain
pub mod LoadAnswers
pub mod WrittenLists
pub mod WrittenRecords
pub mod SessionRecords
pub mod SavedWritten
