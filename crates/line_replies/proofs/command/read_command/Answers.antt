use Rattle.std.proofs.Common.{Bor, List, ℕ}
use Rattle.std.specs.Option.{option_copied}
use Rattle.line_replies.proofs.CommandLaws.{read_found}
use Rattle.line_replies.proofs.command.read_command.Goals as goal

pub returns-clause-read : goal.returns-clause-read
returns-clause-read c = read_found (λ (text : Bor (List ℕ)). text.now) (option_copied c.args.line) c.parse_line.result c.parse_line.ensures.read
