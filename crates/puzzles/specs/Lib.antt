-- The words of this crate's contracts: how the program ends, the name that it is called by, and all of it,
-- from its words on.
pub mod Endings
pub mod Names
pub mod WholePrograms
