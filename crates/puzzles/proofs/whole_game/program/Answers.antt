use Rattle.std.proofs.Common.{inl, inr, refl}
use Rattle.puzzles.proofs.WholeGames.{in_lines, in_objects}
use Rattle.puzzles.proofs.whole_game.program.Goals as goal

-- src/whole_game.rt: the words can't be had
pub returns-in-Err : goal.returns-in-Err
returns-in-Err g c = inr (c.in-Err.fault, c.in-Err.ensures.err, refl, refl)

-- src/whole_game.rt: the program answers in lines of text
pub returns-in-Puzzles : goal.returns-in-Puzzles
returns-in-Puzzles g c = inl (
  c.in-Ok.words.items,
  c.in-Ok.ensures.ok,
  in_lines _ _ _ _ _ _ c.deref.ensures.value
      c.deref-in-Puzzles.ensures.value c.program_name.ensures c.in-Puzzles.is c.play_words.ensures,
)

-- src/whole_game.rt: the program answers in objects
pub returns : goal.returns
returns g c = inl (
  c.in-Ok.words.items,
  c.in-Ok.ensures.ok,
  in_objects _ _ _ _ _ _ c.deref.ensures.value
      c.deref-in-PuzzlesJson.ensures.value c.program_name.ensures c.in-PuzzlesJson.is c.play_words-in-PuzzlesJson.ensures,
)
