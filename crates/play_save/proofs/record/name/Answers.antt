use Rattle.std.proofs.lemmas.Grind.{common_steps}
-- One byte more: a name ends after the last byte that is no blank.
use Rattle.std.proofs.Common.{arith}
use Rattle.std.proofs.lemmas.List.{take_more}
use Rattle.std.proofs.lemmas.Bool.Decides.{nat_tests}
use Rattle.play_save.proofs.RecordLaws.{unpadded-snoc}
use Rattle.play_save.proofs.record.name.Goals as goal
use Rattle.play_save.proofs.record.name.Goals.{then-byte-ne32, else-byte-ne32}

pub loop-place-preserved : goal.loop-place-preserved
loop-place-preserved c =
    grind (arith, nat_tests, common_steps, take_more, unpadded-snoc, then-byte-ne32, else-byte-ne32)
