use Rattle.std.proofs.Common.{◌≡◌, take}
use Rattle.std.specs.List.{flat_map}
use Rattle.line_replies.specs.SolutionTexts.{grid_line}
use Rattle.line_replies.proofs.reply.solution_list.list_text.Given as goal

abbrev pub invariant-loop-grid : goal.invariant-loop-grid
invariant-loop-grid l = l.text.items ≡ flat_map grid_line (take l.grid-index l.listed)
