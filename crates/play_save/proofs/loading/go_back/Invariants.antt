use Rattle.std.proofs.Common.{◌≡◌, ◌≤◌}
use Rattle.play_midend.specs.Histories.{at_position}
use Rattle.play_save.proofs.loading.go_back.Given as goal

abbrev pub invariant-loop-session : goal.invariant-loop-session
invariant-loop-session g l =
    (l.session ≡ at_position l.fn.session l.session.position) × (l.position ≤ l.session.position)

abbrev pub decreases-loop-session : goal.decreases-loop-session
decreases-loop-session g l = l.session.position
