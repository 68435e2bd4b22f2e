use Rattle.std.proofs.Common.{slice_index}
use Rattle.line_steps.specs.Views.{view_cell}
use Rattle.towers_game.specs.Rows.{May}
use Rattle.towers_game.proofs.TowersSets.{clue_struck}
use Rattle.towers_game.proofs.towers.steps.clue_row.Goals as goal

pub returns : goal.returns
returns c =
    let now = c.args.candidates.now in
    let row = c.unfilled_row.ensures in
    record {
      count = row.count;
      each = λ k v less. clue_struck c.args.p.now now.size (May c.args.look now) c.args.place c.clue-clue.result (view_cell now.size c.args.place k)
          (slice_index c.unfilled_row.result k) v c.requires.size c.requires.place c.clue-clue.ensures.value c.if-clue-eq0.false (row.each k v less);
    }
