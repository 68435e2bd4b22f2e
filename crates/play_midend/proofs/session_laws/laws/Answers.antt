use Rattle.play_midend.proofs.FlagLaws.{help_is_flagged, completion_is_flagged, help_completes}
use Rattle.play_midend.proofs.StorableLaws.{runs_stay_storable}
use Rattle.play_midend.proofs.TestedSolutions.{solutions_are_filled_in}
use Rattle.play_midend.proofs.session_laws.laws.Goals as goal

pub returns-clause-solutions : goal.returns-clause-solutions
returns-clause-solutions g c = solutions_are_filled_in

pub returns-clause-stays_storable : goal.returns-clause-stays_storable
returns-clause-stays_storable g c = runs_stay_storable g.P.Rules.puzzle g.P.Rules.valid g.P.Game.letter_codes

pub returns-clause-help_flagged : goal.returns-clause-help_flagged
returns-clause-help_flagged g c = help_is_flagged g.P.Rules.puzzle

pub returns-clause-completion_flagged : goal.returns-clause-completion_flagged
returns-clause-completion_flagged g c = completion_is_flagged g.P.Rules.puzzle g.P.Rules.valid g.met.P.Rules.valid_size g.met.P.Rules.valid_given

pub returns-clause-help_completes : goal.returns-clause-help_completes
returns-clause-help_completes g c = help_completes g.P.Rules.puzzle
