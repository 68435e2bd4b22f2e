-- A list of moves that is played along from a session, and undos in turn.
use Rattle.std.specs.Prelude.{ℕ, zero, suc, ◌+◌, List, [], ◌∷◌, length, Result, Ok, Err}
use Rattle.trail_solver.specs.Puzzles.{Puzzle}
use Rattle.play_midend.specs.declared.moves.Move.{Move}
use Rattle.play_midend.specs.declared.fault.PlayFault.{PlayFault}
use Rattle.play_midend.specs.Histories.{History, played, undone}

-- one call after another: the second on what the first gives, and a refusal of the first stays
abbrev pub result_and_then : {A B : Type 0} → (A → Result B PlayFault) → Result A PlayFault
    → Result B PlayFault
result_and_then f (Ok a) = f a
result_and_then f (Err fault) = Err fault

-- the moves played in turn, up to the first that is refused
abbrev pub played_all : {P : Type 0} → Puzzle → History P → List Move → Result (History P) PlayFault
played_all p h [] = Ok h
played_all p h (m ∷ ms) = result_and_then (λ next. played_all p next ms) (played p h m)

-- the session with these moves alone, at the last position
abbrev pub with_moves : {P : Type 0} → History P → List Move → History P
with_moves h ms = record h { moves = ms; position = length ms + 1 }

-- so many undos, one after another
abbrev pub undone_times : {P : Type 0} → ℕ → History P → Result (History P) PlayFault
undone_times zero h = Ok h
undone_times (suc n) h = result_and_then (λ before. undone_times n before) (undone h)
