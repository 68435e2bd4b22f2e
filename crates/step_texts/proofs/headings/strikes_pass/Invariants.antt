use Rattle.std.proofs.Common.{◌≡◌, true, take}
use Rattle.std.specs.List.{list_all}
use Rattle.step_texts.specs.Headings.{are_beside, strikes_pass}
use Rattle.step_texts.proofs.headings.strikes_pass.Given as goal

abbrev pub invariant-loop-strike : goal.invariant-loop-strike
invariant-loop-strike l = strikes_pass (are_beside l.beside l.clue) (take l.strike-index l.strikes) ≡ true
