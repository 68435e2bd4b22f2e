-- The last level of the whole starts has the masks of the fillings, so it is empty where there is none.
use Rattle.std.proofs.Common.{◌≡◌, [], length, get_or, rules}
use Rattle.std.proofs.lemmas.List.{get_or_default}
use Rattle.tower_lines.proofs.MaskSetLemmas.{not_empty}
use Rattle.tower_lines.proofs.LevelTables.{reached_filling}
use Rattle.tower_lines.proofs.line_fillings.is_reached_by.Goals as goal

pub returns : goal.returns
returns g c =
    let sets = c.args.sets.now in
    let empty = c.is_empty.result in
    let whole = get_or c.add_starts.new.starts (length sets) [] in
    let same : get_or whole c.args.clue c.index-whole-clue.result ≡ get_or whole c.args.clue [] =
    get_or_default whole c.args.clue c.index-whole-clue.result [] (search rules) in
    let some = not_empty (get_or whole c.args.clue []) empty (rw (← same) c.is_empty.ensures) in
    let fillings = reached_filling {sets = sets} {clue = c.args.clue} whole c.requires.some (c.add_starts.ensures (length sets) (search rules)) in
    (λ e. fillings.0 (some.0 e), λ f. some.1 (fillings.1 f))
