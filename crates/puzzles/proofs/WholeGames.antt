-- The program from its words on, case by case.
use Rattle.std.proofs.Common.{◌≡◌, ◌↔◌, ◌∙◌, List, subst, sym}
use Rattle.puzzle_cli.specs.Starts.{Word}
use Rattle.puzzles.specs.Names.{IsCalledPuzzlesJson}
use Rattle.puzzles.specs.WholePrograms.{IsUnderName}
use Rattle.puzzles.specs.declared.program_name.ProgramName.{ProgramName}
use Rattle.puzzles.specs.declared.program_name.ProgramName.TheVariants.{Puzzles, PuzzlesJson}

-- called by any name but `puzzles-json`, the program answers in lines of text
pub in_lines : (named played words : List Word) (plain json : List Word → Type 0) (called : ProgramName) → named ≡ words → played ≡ words
    → (called ≡ PuzzlesJson) ↔ IsCalledPuzzlesJson named → called ≡ Puzzles → plain played → IsUnderName words plain json
in_lines named played words plain json called first second name is ends = record {
  in_objects = λ objects. let clash : Puzzles ≡ PuzzlesJson = sym is ∙ name.1 (subst IsCalledPuzzlesJson (sym first) objects) in absurd cc;
  in_lines = λ lines. subst plain second ends;
}

-- called by the name `puzzles-json`, the program answers in objects
pub in_objects : (named played words : List Word) (plain json : List Word → Type 0) (called : ProgramName) → named ≡ words → played ≡ words
    → (called ≡ PuzzlesJson) ↔ IsCalledPuzzlesJson named → called ≡ PuzzlesJson → json played → IsUnderName words plain json
in_objects named played words plain json called first second name is ends = record {
  in_objects = λ objects. subst json second ends;
  in_lines = λ lines. absurd (lines (subst IsCalledPuzzlesJson first (name.0 is)));
}
