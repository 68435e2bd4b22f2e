use Rattle.std.proofs.lemmas.Grind.{common_steps}
-- A text that was written is a save of the session alone.
use Rattle.std.proofs.Common.{arith}
use Rattle.std.proofs.lemmas.Bool.Decides.{nat_tests}
use Rattle.play_save.proofs.SavedWritten.{round_same, round_board, round_refused}
use Rattle.play_save.proofs.save_round.saved_and_loaded.Goals as goal

pub returns-clause-same : goal.returns-clause-same
returns-clause-same g c = grind (arith, nat_tests, common_steps, round_same)

pub returns-clause-board : goal.returns-clause-board
returns-clause-board g c = round_board g.P.Rules.puzzle c.args.session.now c.load.result (returns-clause-same g c)

pub returns-clause-loads : goal.returns-clause-loads
returns-clause-loads g c = grind (arith, nat_tests, common_steps, round_refused)
