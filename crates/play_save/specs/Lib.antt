-- Save files: their records, the saves of a session, what is written, and the first fault of a text.
pub mod Faults
pub mod Records
pub mod Views
pub mod Keys
pub mod KeyedRecords
pub mod SaveTexts
pub mod Written
pub mod FirstFaults
pub mod Inner
pub mod Laws
