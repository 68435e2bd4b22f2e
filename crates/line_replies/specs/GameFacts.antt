-- The facts of a game that the replies know, in one record.
use Rattle.std.specs.Prelude.{ℕ, Bool, List, [], Result}
use Rattle.latin_board.specs.Boards.{BoardValue}
use Rattle.game_texts.specs.declared.id_fault.IdFault.{IdFault}
use Rattle.game_texts.specs.Parameters.{has_adjacent_mode}
use Rattle.game_texts.specs.declared.game.Game.{Ghosts as OfGame}
use Rattle.trail_solver.specs.declared.rules.Rules.{Ghosts}
use Rattle.line_replies.specs.declared.draw.Draw.{Ghosts as OfDraw}

-- a game's name and letters, and whether it has an adjacent mode; what generic code knows of its puzzles and their
-- items; the grammar, the reading and the written form of their descriptions; the pictures of their boards
pub record GameFacts (P : Type 0) : Type 1 where
  pub title : List ℕ
  pub letters : List ℕ
  pub has_adjacent : Bool
  pub rules : Ghosts P
  pub describes : List ℕ → P → Type 0
  pub desc_at : ℕ → List ℕ → Result P IdFault
  pub desc_of : P → List ℕ
  pub drawing : P → BoardValue → List ℕ

-- the facts of a game whose boards are drawn so, by what its traits say
abbrev pub facts_with : {P : Type 0} → Ghosts P → OfGame P → (P → BoardValue → List ℕ) → GameFacts P
facts_with rules game drawing = record {
  title = game.title;
  letters = game.letter_codes;
  has_adjacent = has_adjacent_mode game.title;
  rules = rules;
  describes = game.describes;
  desc_at = game.desc_at;
  desc_of = game.desc_of;
  drawing = drawing;
}

-- the facts of a game that has pictures
abbrev pub facts_of : {P : Type 0} → Ghosts P → OfGame P → OfDraw P → GameFacts P
facts_of rules game draw = facts_with rules game draw.drawing

-- the facts of any game, as far as a session begins by them: no picture is drawn yet
abbrev pub undrawn_facts : {P : Type 0} → Ghosts P → OfGame P → GameFacts P
undrawn_facts rules game = facts_with rules game (λ puzzle board. [])
