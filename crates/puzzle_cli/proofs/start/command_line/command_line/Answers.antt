use Rattle.puzzle_cli.proofs.CommandLines.{is_line}
use Rattle.puzzle_cli.proofs.start.command_line.command_line.Goals as goal

-- src/start/command_line.rt: the arguments were added in this order
pub returns : goal.returns
returns c = λ is_id is_local. is_line _ _ _ _ _ _ _ _ _ _ c.in_ok-bare_command.ensures c.game.ensures.rule is_id c.option.ensures.rule
    c.option-2.ensures.rule (c.in_ok-arg.ensures.shape c.game.ensures.local) (c.in_ok-arg-2.ensures.shape is_local)
    (c.in_ok-arg-3.ensures.shape c.option.ensures.local) (c.in_ok-line.ensures.shape c.option-2.ensures.local)
