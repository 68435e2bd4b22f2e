-- The texts of boards tell them apart.
use Rattle.std.specs.Prelude.{◌≡◌, ℕ, List, Bool, true, false}
use Rattle.latin_board.specs.Boards.{BoardValue, IsBoard}
use Rattle.towers_game.specs.Towers.{TowersValue}
use Rattle.unequal_game.specs.Unequal.{UnequalValue}
use Rattle.play_midend.specs.Histories.{History, IsSessionBoard}
use Rattle.line_replies.specs.declared.command.View.{View}
use Rattle.line_replies.specs.declared.command.View.TheVariants.{Show, Marks, Status, Done}
use Rattle.line_replies.specs.GameFacts.{GameFacts}
use Rattle.line_replies.specs.SessionReplies.{shown_board, view_text}
use Rattle.line_replies.specs.TowersPicture.{towers_picture}
use Rattle.line_replies.specs.UnequalPicture.{unequal_picture}

-- pictures of two boards of a puzzle's size are the same only where the numbers are
abbrev pub PicturesShowNumbers : {P : Type 0} → (P → ℕ) → (P → BoardValue → List ℕ) → Type 0
PicturesShowNumbers {P} size drawing =
    (p : P) (b c : BoardValue) → IsBoard b → IsBoard c → b.size ≡ size p → c.size ≡ size p → drawing p b ≡ drawing p c
    → b.numbers ≡ c.numbers

-- the pictures of both games show the numbers
abbrev pub BothPicturesShowNumbers : Type 0
BothPicturesShowNumbers =
    PicturesShowNumbers (λ (v : TowersValue). v.size) towers_picture
    × PicturesShowNumbers (λ (v : UnequalValue). v.size) unequal_picture

-- whether a view of a session is one of those that tell its board
abbrev pub tells_board : View → Bool
tells_board Show = true
tells_board Marks = true
tells_board Done = true
tells_board Status = true
tells_board _ = false

-- two sessions of a puzzle of which picture, marks, done clues and status are told the same show the same board, both
-- flags included
abbrev pub ViewsTellBoards : {P : Type 0} → GameFacts P → Type 0
ViewsTellBoards {P} f =
    PicturesShowNumbers (λ p. (f.rules.puzzle p).size) f.drawing → (h k : History P) → k.puzzle ≡ h.puzzle
    → let w = (f.rules.puzzle h.puzzle).size in
    IsSessionBoard w (shown_board f h) → IsSessionBoard w (shown_board f k)
    → ((view : View) → tells_board view ≡ true → view_text f h view ≡ view_text f k view)
    → shown_board f h ≡ shown_board f k
