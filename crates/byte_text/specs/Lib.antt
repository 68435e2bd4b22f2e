-- Words that readers of texts share: bytes by name, where a text is cut, decimals, and a reader's answer.
pub mod Bytes
pub mod Cuts
pub mod Decimals
pub mod Reading
