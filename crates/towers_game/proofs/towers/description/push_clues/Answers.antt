-- The clues are the first and the others.
use Rattle.std.proofs.Common.{◌≡◌, ◌≤◌, ◌++◌, ◌∷◌, ◌∙◌, take, All, sym, ap, subst, arith, append_assoc, take_all}
use Rattle.std.proofs.lemmas.List.Elements.{All-tail, All-get_or}
use Rattle.towers_game.specs.TowersText.{clue_field, clue_part}
use Rattle.towers_game.proofs.CluePartLemmas.{slashed, clue_part_slashed}
use Rattle.towers_game.proofs.towers.description.push_clues.Goals as goal

pub push_clue-requires-in-loop-clue : goal.push_clue-requires-in-loop-clue
push_clue-requires-in-loop-clue c =
    let parts : c.args.clues.now ≡ c.in-Some.first.now ∷ c.in-Some.others.now = c.in-Some.ensures.cases.0 in
    let all = subst (All (λ n. n ≤ 9)) parts c.requires in
    All-get_or (λ n. n ≤ 9) c.in-Some.others.now c.loop-clue.clue-index 0 (omega arith)
    (All-tail (λ n. n ≤ 9) c.in-Some.first.now c.in-Some.others.now all)

pub returns : goal.returns
returns c =
    let parts : c.args.clues.now ≡ c.in-Some.first.now ∷ c.in-Some.others.now = c.in-Some.ensures.cases.0 in
    let others = c.in-Some.others.now in
    let all : take c.loop-clue.clue-index others ≡ others = take_all c.loop-clue.clue-index others (omega arith) in
    let front : c.push_clue.new.text.items ≡ c.args.text.now.items ++ clue_field c.in-Some.first.now = c.in_ok-push_clue.ensures in
    c.loop-clue.invariant
    ∙ (ap (λ xs. c.push_clue.new.text.items ++ slashed xs) all
    ∙ (ap (λ xs. xs ++ slashed others) front
    ∙ (append_assoc c.args.text.now.items (clue_field c.in-Some.first.now) (slashed others)
    ∙ ap (λ xs. c.args.text.now.items ++ xs) (sym (clue_part_slashed c.in-Some.first.now others) ∙ ap clue_part (sym parts)))))
