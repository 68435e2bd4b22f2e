use Rattle.std.proofs.lemmas.Grind.{common_steps}
-- Each turn of the loop writes one state record more.
use Rattle.std.proofs.lemmas.Bool.Decides.{nat_tests}
use Rattle.std.proofs.Common.{arith}
use Rattle.std.proofs.lemmas.List.{append_assoc}
use Rattle.play_save.proofs.WrittenLists.{state_more}
use Rattle.play_save.proofs.saving.put_states.Goals as goal

pub loop-i-preserved : goal.loop-i-preserved
loop-i-preserved g c = grind (arith, nat_tests, common_steps, state_more, append_assoc)
