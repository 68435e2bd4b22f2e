-- The sought grids that a step keeps.
use Rattle.latin_board.specs.Squares.{GridValue}
use Rattle.trail_solver.specs.Candidates.{CandidatesValue, IsWithin}

-- each grid that is sought within the old candidates is within the new ones
abbrev pub KeepsEach : (GridValue → Type 0) → CandidatesValue → CandidatesValue → Type 0
KeepsEach Sought old new = (g : GridValue) → Sought g → IsWithin old g → IsWithin new g
