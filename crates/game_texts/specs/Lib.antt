-- The texts by which games are named: for each its grammar, the form that is written, and what is read; and the faults
-- of reading.
pub mod IdFaults
pub mod Parameters
pub mod GameIds
-- lemmas for the laws of games: texts that are read and written
pub mod Laws
