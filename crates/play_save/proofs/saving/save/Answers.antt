use Rattle.std.proofs.lemmas.Grind.{common_steps}
-- The records of the headers, and after them the states.
use Rattle.std.proofs.Common.{arith}
use Rattle.std.proofs.lemmas.Bool.Decides.{nat_tests}
use Rattle.play_save.specs.Written.{save_of}
use Rattle.play_save.proofs.WrittenLists.{records_text-append}
use Rattle.play_save.proofs.saving.save.Goals as goal

pub returns-clause-written : goal.returns-clause-written
unfolding save_of
returns-clause-written g c = grind (arith, nat_tests, common_steps, records_text-append)
