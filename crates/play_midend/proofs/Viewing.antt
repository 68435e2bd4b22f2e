-- The calls of a session on the value that contracts see: so many past moves are one less than the position.
use Rattle.std.proofs.lemmas.Bool.Decides.{nat_tests}
use Rattle.std.proofs.Common.{◌≡◌, ◌≢◌, ◌+◌, ◌-◌, List, take, Ok, refl, ap, ◌∙◌, arith}
use Rattle.trail_solver.specs.Puzzles.{Puzzle}
use Rattle.play_midend.specs.declared.moves.Move.{Move}
use Rattle.play_midend.specs.declared.session.Session.TheInside.{Inside}
use Rattle.std.proofs.lemmas.List.{length-map}
use Rattle.play_midend.specs.Steps.{start_of, replay_from}
use Rattle.play_midend.specs.Histories.{past, shown, IsValid, at_position, undone}
use Rattle.play_midend.specs.Inner.Links.{moves_of, viewed, AreLinked}
use Rattle.play_midend.proofs.Linking.{shown_linked, legal_linked}

-- the past moves of a session, as contracts see it, are those of its past links
pub past_viewed : {P : Type 0} (s : Inside P) → past (viewed s) ≡ take s.past (moves_of s.links.items)
past_viewed s = let e : s.past + 1 - 1 ≡ s.past = omega arith in ap (λ k. take k (moves_of s.links.items)) e

-- an undo changes the position alone, if the links keep their moves
pub undone_viewed : {P : Type 0} (s : Inside P) (moves : List Move) → s.past ≢ 0 → moves ≡ moves_of s.links.items
    → undone (viewed s) ≡ Ok (record (viewed s) { moves = moves; position = s.past - 1 + 1 })
undone_viewed s moves some same = grind (arith, nat_tests)

pub forward_viewed : {P : Type 0} (s : Inside P) (moves : List Move) → moves ≡ moves_of s.links.items
    → record (viewed s) { moves = moves; position = s.past + 1 + 1 } ≡ at_position (viewed s) (s.past + 1 + 1)
forward_viewed s moves same = rw same refl

-- if the links of a session are linked, it shows its board
pub shown_viewed : {P : Type 0} (p : Puzzle) (s : Inside P) → AreLinked p s.links.items s.past s.board → shown p (viewed s) ≡ s.board
shown_viewed p s h =
    ap (λ ms. replay_from p (start_of p) ms) (past_viewed s) ∙ shown_linked p s.links.items s.past s.board h

-- if the links of a session are linked, it is valid
pub valid_viewed : {P : Type 0} (p : Puzzle) (s : Inside P) → s.params.size ≡ p.size → AreLinked p s.links.items s.past s.board
    → IsValid p (viewed s)
valid_viewed p s size h = grind (arith, nat_tests, length-map, legal_linked)
