-- Lemmas on masks and sets of masks, and on the levels of a line's starts.
pub mod CheckLemmas
pub mod LevelAdditions
pub mod LevelLemmas
pub mod LevelSteps
pub mod LevelTables
pub mod LevelValues
pub mod LowMaskLemmas
pub mod MaskLemmas
pub mod MaskSetLemmas
pub mod SeenLemmas
pub mod StartLemmas
pub mod WholeLines
