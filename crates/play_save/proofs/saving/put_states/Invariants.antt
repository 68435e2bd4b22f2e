use Rattle.std.proofs.Common.{◌≡◌, ◌-◌, ◌++◌, take, map}
use Rattle.play_save.specs.Written.{records_text, state_record}
use Rattle.play_save.proofs.saving.put_states.Given as goal

abbrev pub invariant-loop-i : goal.invariant-loop-i
invariant-loop-i g l =
    l.text.items ≡ l.initial.text.items ++ records_text (map (state_record l.desc) (take (l.i - 1) l.session.moves))
