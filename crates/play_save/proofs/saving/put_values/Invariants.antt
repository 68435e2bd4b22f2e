use Rattle.std.proofs.Common.{◌≡◌, ◌++◌, take}
use Rattle.std.specs.List.{flat_map}
use Rattle.play_save.specs.Keys.{keys}
use Rattle.play_save.specs.Written.{records_text, key_records}
use Rattle.play_save.proofs.saving.put_values.Given as goal

abbrev pub invariant-loop-key : goal.invariant-loop-key
invariant-loop-key g l =
    l.text.items ≡ l.initial.text.items
    ++ records_text (flat_map (key_records g.P.Game.title l.desc l.session) (take l.key-index keys))
