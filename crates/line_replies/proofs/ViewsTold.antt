-- Two sessions of which the same is told show the same board.
use Rattle.std.proofs.Common.{◌≡◌, ℕ, ◌+◌, List, [], ◌∷◌, ◌++◌, length, refl, sym, ap, ◌∙◌}
use Rattle.std.specs.Fmt.{decimal}
use Rattle.std.proofs.lemmas.List.{append_assoc}
use Rattle.latin_board.specs.Boards.{BoardValue}
use Rattle.byte_text.specs.Bytes.{line_feed, space, slash}
use Rattle.line_replies.specs.declared.command.View.TheVariants.{Show, Marks, Status, Done}
use Rattle.line_replies.specs.GameFacts.{GameFacts}
use Rattle.line_replies.specs.SessionReplies.{shown_board}
use Rattle.line_replies.specs.Faithful.{ViewsTellBoards}
use Rattle.line_replies.proofs.BoardsTold.{marks_told, done_told, flag_word, flags_told}

-- what follows the word of the status
abbrev status_rest : ℕ → ℕ → List ℕ
status_rest position states = (space ∷ (decimal position ++ (slash ∷ decimal states))) ++ line_feed ∷ []

pub views_tell_boards : {P : Type 0} (f : GameFacts P) → ViewsTellBoards f
views_tell_boards {P} f pictures h k same_puzzle first second told = λ i. record {
  size = size i;
  numbers = numbers i;
  marks = marks i;
  completed = flags.1 i;
  cheated = flags.0 i;
  done = done i;
}
  where
    w : ℕ
    w = (f.rules.puzzle h.puzzle).size

    b : BoardValue
    b = shown_board f h

    c : BoardValue
    c = shown_board f k

    size : b.size ≡ c.size
    size = first.size ∙ sym second.size

    picture : f.drawing h.puzzle b ≡ f.drawing h.puzzle c
    picture = told Show refl ∙ ap (λ q. f.drawing q c) same_puzzle

    numbers : b.numbers ≡ c.numbers
    numbers = pictures h.puzzle b c first.board second.board first.size second.size picture

    marks : b.marks ≡ c.marks
    marks = marks_told w b c first.board second.board first.size second.size (told Marks refl)

    done : b.done ≡ c.done
    done = done_told w b c first.board second.board first.size second.size (told Done refl)

    flags : (b.cheated ≡ c.cheated) × (b.completed ≡ c.completed)
    flags =
        flags_told b.cheated b.completed (status_rest h.position (length h.moves + 1)) c.cheated c.completed
        (status_rest k.position (length k.moves + 1)) first.helped second.helped
        (sym (append_assoc (flag_word b.cheated b.completed) (space ∷ (decimal h.position ++ (slash ∷ decimal (length h.moves + 1)))) (line_feed ∷ []))
        ∙ told Status refl
        ∙ append_assoc (flag_word c.cheated c.completed) (space ∷ (decimal k.position ++ (slash ∷ decimal (length k.moves + 1)))) (line_feed ∷ []))
