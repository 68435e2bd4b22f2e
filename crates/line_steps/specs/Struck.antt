-- The values that narrowing rules out, by the candidates alone: those that some reason but groups strikes.
use Rattle.std.specs.Prelude.{◌≡◌, ℕ, Bool, true, false}
use Rattle.trail_solver.specs.Candidates.{CandidatesValue, may_be}
use Rattle.trail_solver.specs.Pairs.{IsPair}
use Rattle.line_steps.specs.Reasons.{Striking}
use Rattle.line_steps.specs.declared.reason.Reason.{Reason}
use Rattle.line_steps.specs.declared.reason.Reason.TheVariants.{Given, Peer, Place, Bound, Stand, Clue, Sign, Set}

-- narrowing strikes by reasons of this kind
abbrev pub is_narrowing : Reason → Bool
is_narrowing (Given cell) = true
is_narrowing (Peer cell) = true
is_narrowing (Place line index value) = true
is_narrowing (Bound place) = true
is_narrowing (Stand place) = true
is_narrowing (Clue place) = true
is_narrowing (Sign from to) = true
is_narrowing (Set line squares values) = false

-- the pair is struck by some reason that narrowing uses
abbrev pub IsNarrowed : Striking → CandidatesValue → ℕ → ℕ → Type 0
IsNarrowed Struck c cell value = (reason : Reason) × (is_narrowing reason ≡ true) × Struck c reason cell value

-- ---- what narrowing the old candidates to the new ones leaves

-- no pair is left in the new candidates that is struck by the old ones
abbrev pub NoneLeft : (CandidatesValue → ℕ → ℕ → Type 0) → CandidatesValue → CandidatesValue → Type 0
NoneLeft Struck old new =
    (cell value : ℕ) → IsPair old.size cell value → Struck old cell value → may_be new cell value ≡ false
