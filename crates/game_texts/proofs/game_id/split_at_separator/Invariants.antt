use Rattle.std.proofs.Common.{◌≡◌, ◌++◌, take, drop}
use Rattle.game_texts.specs.GameIds.{params_part, from_separator}
use Rattle.game_texts.proofs.game_id.split_at_separator.Given as goal

abbrev pub invariant-loop-place : goal.invariant-loop-place
invariant-loop-place l =
    (params_part l.text ≡ take l.place l.text ++ params_part (drop l.place l.text))
    × (from_separator l.text ≡ from_separator (drop l.place l.text))
