-- Lemmas on texts as lists of bytes.
pub mod CutLaws
pub mod DecimalLaws
pub mod ReadingLaws
