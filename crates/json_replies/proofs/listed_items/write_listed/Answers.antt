use Rattle.std.proofs.Common.{ℕ, ◌*◌, List, refl, ap, ◌∙◌}
use Rattle.std.specs.List.{range_with_len}
use Rattle.serde_json.specs.Data.{Data}
use Rattle.json_replies.specs.Boards.{listed_data, squares, when}
use Rattle.json_replies.specs.Counts.{count_data}
use Rattle.json_replies.specs.ListedItems.{listed_by, place_data, signs_at, when_listed}
use Rattle.json_replies.proofs.WrittenData.{object_follows, more_members, key_follows, member_is}
use Rattle.json_replies.proofs.listed_items.write_listed.Goals as goal

pub returns : goal.returns
returns g c =
    let p = c.args.puzzle.now in
    let items = g.P.Items in
    let w = (g.P.Rules.puzzle p).size in
    let listed = listed_by c.args.listed.now in
    let size = c.size-size.ensures.value in
    let clues : ℕ → List Data = λ place. when_listed listed (items.clue_item_of w place) (place_data w place) in
    let givens : ℕ → List Data = λ cell. when (listed (items.given_item_of w cell)) (count_data cell) in
    let signs = signs_at items (g.P.StepNames.says_greater_of p) w listed in
    object_follows _ refl c.in_ok-begin_object.ensures
    (more_members (member_is (ap (λ k. listed_data clues (range_with_len 0 (4 * k))) (c.from.ensures ∙ c.get.ensures.value ∙ size))
    (key_follows c.in_ok-key.ensures c.in_ok-write_range.ensures))
    (more_members (member_is (ap (λ v. listed_data givens (squares v)) size)
    (key_follows c.in_ok-key-2.ensures c.in_ok-write_squares.ensures))
    (member_is (ap (λ v. listed_data signs (squares v)) size) (key_follows c.in_ok-key-3.ensures c.in_ok-write_squares-2.ensures))))
    c.in_ok-end_object.ensures
