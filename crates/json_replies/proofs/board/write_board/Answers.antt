use Rattle.std.proofs.Common.{ℕ, List, ◌∷◌, [], refl, ap, ◌∙◌}
use Rattle.serde_json.specs.Data.{Data, boolean}
use Rattle.latin_board.specs.Boards.{marks_at}
use Rattle.json_replies.specs.Boards.{grid_data, listed_data, mark_set_data, repeats_data, squares}
use Rattle.json_replies.specs.Counts.{count_data}
use Rattle.json_replies.proofs.WrittenData.{object_follows, more_members, key_follows, member_is}
use Rattle.json_replies.proofs.board.write_board.Goals as goal

pub returns : goal.returns
returns g c =
    let size = c.size-size.ensures.value in
    let marks : ℕ → List Data = λ cell. mark_set_data (marks_at c.args.board.now cell) ∷ [] in
    let givens : ℕ → List Data = λ cell. count_data ((g.P.Rules.puzzle c.args.puzzle.now).given cell) ∷ [] in
    object_follows _ refl c.in_ok-begin_object.ensures
    (more_members (member_is (ap boolean c.cheated.ensures) c.in_ok-write_flag_at.ensures)
    (more_members (key_follows c.in_ok-key.ensures c.in_ok-write_clues.ensures)
    (more_members (member_is (ap boolean c.completed.ensures) c.in_ok-write_flag_at-2.ensures)
    (more_members (member_is (ap (λ w. repeats_data w c.args.errors.now) size)
    (key_follows c.in_ok-key-2.ensures c.in_ok-write_squares.ensures))
    (more_members (member_is (ap (λ w. listed_data givens (squares w)) c.size.ensures.value)
    (key_follows c.in_ok-key-3.ensures c.in_ok-write_squares-2.ensures))
    (more_members (member_is (ap (λ w. listed_data marks (squares w)) size)
    (key_follows c.in_ok-key-4.ensures c.in_ok-write_squares-3.ensures))
    (more_members (member_is (ap grid_data c.grid.ensures) (key_follows c.in_ok-key-5.ensures c.in_ok-write_grid.ensures))
    (more_members (key_follows c.in_ok-key-6.ensures c.in_ok-write_signs.ensures)
    (member_is (ap count_data (c.from.ensures ∙ c.get.ensures.value ∙ size)) c.in_ok-write_number_at.ensures)))))))))
    c.in_ok-end_object.ensures
