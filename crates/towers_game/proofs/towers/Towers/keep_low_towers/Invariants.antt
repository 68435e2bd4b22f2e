use Rattle.line_steps.specs.Chains.{LeadsTo}
use Rattle.towers_game.specs.TowersReasons.{IsTowersStruckBy}
use Rattle.line_steps.specs.declared.grade.Grade.TheVariants.{Easy}
use Rattle.towers_game.proofs.towers.Towers.keep_low_towers.Given as goal

abbrev pub invariant-loop-place : goal.invariant-loop-place
invariant-loop-place l = LeadsTo (IsTowersStruckBy l.self) Easy l.fn.candidates l.candidates
