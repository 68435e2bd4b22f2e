use Rattle.line_steps.specs.Chains.{LeadsTo}
use Rattle.towers_game.specs.TowersReasons.{IsTowersStruckBy}
use Rattle.line_steps.specs.declared.grade.Grade.TheVariants.{Easy}
use Rattle.towers_game.proofs.towers.Towers.keep_low_from.Given as goal

abbrev pub invariant-loop-k : goal.invariant-loop-k
invariant-loop-k l = LeadsTo (IsTowersStruckBy l.self) Easy l.fn.candidates l.candidates
