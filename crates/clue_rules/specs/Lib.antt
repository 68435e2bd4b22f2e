-- The definitions by which the contracts of both games speak, given on from the crates that have them.

-- squares and candidates; what each reason strikes; grades, chains of steps, and what a grade leaves
pub use Rattle.line_steps.specs.Views
pub use Rattle.line_steps.specs.Left
pub use Rattle.line_steps.specs.Givens
pub use Rattle.line_steps.specs.Struck
pub use Rattle.line_steps.specs.Reasons
pub use Rattle.line_steps.specs.Grades
pub use Rattle.line_steps.specs.Chains
pub use Rattle.line_steps.specs.Settled
pub use Rattle.line_steps.specs.Along
pub use Rattle.line_steps.specs.Takes
-- items
pub use Rattle.needed_items.specs.Needed
-- parameters and game IDs
pub use Rattle.game_texts.specs.IdFaults
pub use Rattle.game_texts.specs.Parameters
pub use Rattle.game_texts.specs.GameIds
-- Towers
pub use Rattle.towers_game.specs.Towers
pub use Rattle.towers_game.specs.Fillings
pub use Rattle.towers_game.specs.Rows
pub use Rattle.towers_game.specs.TowersReasons
pub use Rattle.towers_game.specs.TowersText
-- Unequal
pub use Rattle.unequal_game.specs.Unequal
pub use Rattle.unequal_game.specs.UnequalReasons
pub use Rattle.unequal_game.specs.UnequalText
