-- The format, its draws: a square, and an order of items to be tried.
use Rattle.std.specs.Prelude.{ℕ, zero, suc, ◌+◌, ◌-◌, ◌*◌, ◌/◌, List, ◌++◌, map, take, drop}
use Rattle.latin_board.specs.Squares.{GridValue}
use Rattle.rand_core.specs.Stream.{Stream}
use Rattle.puzzle_gen.specs.SeededSquares.{drawn_order}
use Rattle.fair_games.specs.Squares.{drawn_latin}
use Rattle.fair_games.specs.declared.trial.Trial.{Trial}
use Rattle.fair_games.specs.declared.trial.Trial.TheVariants.{GivensAlone, GivensFirst, HalfFirst}

-- the items that a trial tries, in turn, by an order of the clues (or signs) and one of the givens; in the
-- numbers of items, so many clues come first, and the givens after them
abbrev pub in_turn : Trial → ℕ → List ℕ → List ℕ → List ℕ
in_turn GivensAlone count clues givens = map (λ i. count + i) givens
in_turn GivensFirst count clues givens = map (λ i. count + i) givens ++ clues
in_turn HalfFirst count clues givens = take (count / 2) clues ++ map (λ i. count + i) givens ++ drop (count / 2) clues

-- an order of the givens is drawn, and then one of the clues; and the stream that is left
abbrev pub drawn_trial : Trial → ℕ → ℕ → Stream → List ℕ × Stream
drawn_trial trial count cells s =
    let givens = drawn_order cells s in
    let clues = drawn_order count givens.1 in
    (in_turn trial count clues.0 givens.0, clues.1)

-- a draw: a square, and an order of its items, of which the givens are the last; and the stream that is left
abbrev pub drawn_game : Trial → ℕ → ℕ → Stream → (GridValue × List ℕ) × Stream
drawn_game trial w items s =
    let square = drawn_latin w s in
    let order = drawn_trial trial (items - w * w) (w * w) square.1 in
    ((square.0, order.0), order.1)

-- the stream that is left after n draws
abbrev pub stream_after : Trial → ℕ → ℕ → ℕ → Stream → Stream
stream_after trial w items zero s = s
stream_after trial w items (suc n) s = (drawn_game trial w items (stream_after trial w items n s)).1

-- the square and the order of a draw, counted from 0
abbrev pub draw_at : Trial → ℕ → ℕ → Stream → ℕ → GridValue × List ℕ
draw_at trial w items s n = (drawn_game trial w items (stream_after trial w items n s)).0
