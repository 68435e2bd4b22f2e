pub mod LinesCut
pub mod BytesRead
pub mod LinesInTurn
pub mod BytesSent
pub mod StorableRuns
pub mod CommandLines
