-- Lemmas on the members of sets, on the sets that calls make, on their ends, and on one number more.
pub mod Members
pub mod Calls
pub mod Ends
pub mod OneMore
