-- The words of this crate's contracts. Bytes, lines and counts: Texts, Counts; data token by token:
-- WrittenData; an object's line: ObjectLines; the session that is left: Sessions; a reply: Replies; the
-- board, its clues and signs: Boards, ClueLists; a hint, with the steps that explain it: Reasons, Steps,
-- HintObjects, from pencil marks: MarkedHints; the lines beside the commands: FurtherLines; the line `fair`:
-- FairLines, FairReplies; a setter's lines: ItemChanges, DeskReplies, ListedItems; all lines that begin a
-- game: BeginLines, BeginRefusals, BeginReplies; the replies to a line: JsonReplies; its laws: ReplyLaws,
-- FairLaws, MarkedLaws, HintLines.
pub mod Texts
pub mod Counts
pub mod WrittenData
pub mod ObjectLines
pub mod Sessions
pub mod Replies
pub mod Boards
pub mod ClueLists
pub mod Reasons
pub mod Steps
pub mod HintObjects
pub mod MarkedHints
pub mod ListedItems
pub mod FurtherLines
pub mod FairLines
pub mod BeginLines
pub mod BeginRefusals
pub mod FairReplies
pub mod ItemChanges
pub mod DeskReplies
pub mod BeginReplies
pub mod JsonReplies
pub mod ReplyLaws
pub mod FairLaws
pub mod MarkedLaws
pub mod HintLines
pub mod Laws
-- words that the contracts of private functions alone use
pub mod Inner
