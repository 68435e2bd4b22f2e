use Rattle.puzzle_cli.proofs.CommandLines.{is_parsed, is_parse_fault}
use Rattle.puzzle_cli.proofs.start.command_line.parse.Goals as goal

-- src/start/command_line.rt: the command line's own matches
pub returns-clause-matched : goal.returns-clause-matched
returns-clause-matched c = is_parsed _ _ _ (c.in_ok-command_line.ensures c.option-id.ensures.rule c.option-id.ensures.local)
    c.try_get_matches_from.ensures.matches c.try_get_matches_from.ensures.kinds

-- the command line's own faults
pub returns-clause-refused : goal.returns-clause-refused
returns-clause-refused c = is_parse_fault _ _ _ (c.in_ok-command_line.ensures c.option-id.ensures.rule c.option-id.ensures.local)
    c.try_get_matches_from.ensures.kinds
