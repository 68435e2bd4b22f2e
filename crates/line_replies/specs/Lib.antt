-- The words of this crate's contracts. A line and its command: Lines, Commands; the answer and the session
-- that is left: GameFacts, NewSessions, SessionReplies, Replies, InTurn; in other words: Formats; machines
-- that answer lines: Texts, Machines; the first session: Starts; their laws: RunLaws. The others are texts
-- and faults, and Inner the words of private steps.
pub mod WholeLines
pub mod Symbols
pub mod TowersPicture
pub mod UnequalPicture
pub mod BoardTexts
pub mod SolutionTexts
pub mod Commands
pub mod GameFacts
pub mod Refusals
pub mod NewSessions
pub mod SessionReplies
pub mod Replies
pub mod LineFault
pub mod Lines
pub mod StartFault
pub mod Starts
pub mod Texts
pub mod Machines
pub mod Formats
pub mod RunLaws
pub mod Faithful
pub mod InTurn
pub mod Inner
