use Rattle.std.proofs.Common.{refl}
use Rattle.json_replies.specs.FurtherLines.{solutions_data}
use Rattle.json_replies.proofs.WrittenData.{list_follows}
use Rattle.json_replies.proofs.further.solutions_answer.Goals as goal

pub returns : goal.returns
returns g c =
    let found = c.completion-found.result in (
      solutions_data found,
      (found, c.completion-found.ensures, refl),
      list_follows c.in_ok-begin_array.ensures c.in_ok-write_grids.ensures c.in_ok-end_array.ensures,
    )
