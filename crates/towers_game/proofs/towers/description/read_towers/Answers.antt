-- The puzzle that is made keeps what each puzzle does.
use Rattle.std.proofs.Common.{◌≡◌, ℕ, ap, ◌∙◌}
use Rattle.latin_board.specs.Squares.{GridValue}
use Rattle.towers_game.proofs.TowersKept.{towers_kept}
use Rattle.towers_game.proofs.towers.description.read_towers.Goals as goal
use Rattle.towers_game.proofs.towers.description.read_towers.Goals.{in-Some+in_ok-givens-in-Some, in-None}

-- the size, as a function
abbrev size_of : GridValue → ℕ
size_of g = g.size

pub invariant_of-result : goal.invariant_of-result
invariant_of-result c =
    let size : c.match-square_part.givens.size ≡ c.args.size =
    elim c.match-square_part.branch [
      | in-Some+in_ok-givens-in-Some w ↦ ap size_of w.givens-is ∙ w.in_ok-givens-in-Some.ensures.size
      | in-None w ↦ ap size_of (w.givens-is ∙ w.blank-givens.ensures)
    ] in
    towers_kept c.args.size c.cut.result.0.now c.in_ok-clues.clues c.match-square_part.givens size c.in_ok-clues.ensures.filled
    c.in_ok-clues.ensures.value
