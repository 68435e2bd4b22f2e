use Rattle.std.proofs.Common.{◌≡◌, ◌≤◌, take}
use Rattle.play_save.specs.Records.{unpadded}
use Rattle.play_save.proofs.record.name.Given as goal

abbrev pub invariant-loop-place : goal.invariant-loop-place
invariant-loop-place l = (take l.end l.key ≡ unpadded (take l.place l.key)) × (l.end ≤ l.place)
