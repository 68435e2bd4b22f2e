use Rattle.std.proofs.Common.{length}
use Rattle.step_texts.proofs.chain_texts.say_steps.Given as goal

abbrev pub decreases-loop-rest : goal.decreases-loop-rest
decreases-loop-rest g l = length l.rest
