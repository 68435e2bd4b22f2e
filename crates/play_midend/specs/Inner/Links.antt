-- The change that stands beside each move of a session: it takes the move back while that is past, and makes
-- it again while that is later.
use Rattle.std.specs.Prelude.{◌≡◌, ℕ, ◌+◌, ◌≤◌, false, List, [], ◌∷◌, length, take, drop, map, Ok}
use Rattle.latin_board.specs.Boards.{BoardValue}
use Rattle.latin_board.specs.Changes.{FitsBoard, board_after}
use Rattle.trail_solver.specs.Puzzles.{Puzzle}
use Rattle.play_midend.specs.declared.moves.Move.{Move}
use Rattle.play_midend.specs.declared.session.Link.{Link}
use Rattle.play_midend.specs.declared.session.Session.TheInside.{Inside}
use Rattle.play_midend.specs.Steps.{step, start_of, begins_with_restart}
use Rattle.play_midend.specs.declared.session.TheConstants.{MOST_STATES}
use Rattle.play_midend.specs.Histories.{History}

-- the moves of a list of links
abbrev pub moves_of : List Link → List Move
moves_of links = map (λ r. r.made) links

-- what contracts see of a session's fields
abbrev pub viewed : {P : Type 0} → Inside P → History P
viewed s = record {
  puzzle = s.puzzle;
  params = s.params;
  next_params = s.next_params;
  extras = s.extras;
  moves = moves_of s.links.items;
  position = s.past + 1;
}

-- a past link, exchanged with the board that follows its move, gives the board before it
pub record IsBack (p : Puzzle) (before : BoardValue) (r : Link) (now : BoardValue) : Type 0 where
  pub stepped : step p before r.made ≡ Ok now
  pub fits : FitsBoard now r.change
  pub back : board_after now r.change ≡ before

-- a later link, exchanged with the board before its move, gives the board after it
pub record IsAhead (p : Puzzle) (now : BoardValue) (r : Link) (next : BoardValue) : Type 0 where
  pub stepped : step p now r.made ≡ Ok next
  pub fits : FitsBoard now r.change
  pub ahead : board_after now r.change ≡ next

-- the past links lead from the first board to this one
abbrev pub ArePast : Puzzle → BoardValue → List Link → BoardValue → Type 0
ArePast p first [] now = now ≡ first
ArePast p first (r ∷ rs) now = (mid : BoardValue) × IsBack p first r mid × ArePast p mid rs now

-- the later links lead on from this board
abbrev pub AreLater : Puzzle → BoardValue → List Link → Type 0
AreLater p now [] = Unit {0}
AreLater p now (r ∷ rs) = (next : BoardValue) × IsAhead p now r next × AreLater p next rs

-- the links of a session, the first `count` of them past, go with the board that it shows
pub record AreLinked (p : Puzzle) (links : List Link) (count : ℕ) (board : BoardValue) : Type 0 where
  pub size : board.size ≡ p.size
  pub inside : count ≤ length links
  pub few : length links + 1 ≤ MOST_STATES
  pub no_restart_first : begins_with_restart (moves_of links) ≡ false
  pub past : ArePast p (start_of p) (take count links) board
  pub later : AreLater p board (drop count links)
