use Rattle.std.proofs.Common.{◌≡◌, take}
use Rattle.std.specs.Prelude.{option_map}
use Rattle.safe_save.specs.Changes.{image_of}
use Rattle.safe_save.proofs.changes.content_of.Given as goal

abbrev pub invariant-loop-change : goal.invariant-loop-change
invariant-loop-change l = option_map (λ bytes. bytes.now) l.content ≡ image_of (take l.change-index l.changes) l.name
