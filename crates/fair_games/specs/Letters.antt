-- The letters of the grades, and the orders of trial.
use Rattle.std.specs.Prelude.{ℕ, Option, Some, None}
use Rattle.line_steps.specs.declared.grade.Grade.{Grade}
use Rattle.line_steps.specs.declared.grade.Grade.TheVariants.{Latin, Easy, Hard}
use Rattle.fair_games.specs.declared.trial.Trial.{Trial}
use Rattle.fair_games.specs.declared.trial.Trial.TheVariants.{GivensAlone, GivensFirst, HalfFirst}

-- the letter of a grade in Towers: e or h
abbrev pub towers_letter : Grade → Option ℕ
towers_letter Latin = None
towers_letter Easy = Some 101
towers_letter Hard = Some 104

-- the letter of a grade in Unequal: t, e or k
abbrev pub unequal_letter : Grade → Option ℕ
unequal_letter Latin = Some 116
unequal_letter Easy = Some 101
unequal_letter Hard = Some 107

-- an easy Towers puzzle keeps all its clues; of a hard one the givens are tried before the clues
abbrev pub towers_trial : Grade → Trial
towers_trial Latin = GivensAlone
towers_trial Easy = GivensAlone
towers_trial Hard = GivensFirst

-- of an Unequal puzzle half of the signs are tried, then the givens, then the other signs
abbrev pub unequal_trial : Grade → Trial
unequal_trial grade = HalfFirst
