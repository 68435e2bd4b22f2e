-- The devices as contracts see them, and when a write failed.
pub mod Device
pub mod Memory
pub mod Stream
