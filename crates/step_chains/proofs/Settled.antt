-- Where the reasons that were looked at strike nothing more, the grade is settled.
use Rattle.std.proofs.lemmas.Grind.{common_steps}
use Rattle.std.proofs.lemmas.Bool.Decides.{nat_tests}
use Rattle.std.proofs.Common.{◌≡◌, ℕ, ◌+◌, ◌-◌, ◌*◌, ◌^◌, ◌<◌, ◌≤◌, ◌⊎◌, true, List, [], ◌∷◌, ◌++◌, length, refl, sym, ap, ◌∙◌, subst, arith, inl, inr, length-append}
use Rattle.std.proofs.lemmas.Bool.{and_from, cases_lt, eq-eqb, le-leb}
use Rattle.std.specs.Prelude.{Option, Some, IfSome}
use Rattle.std.proofs.lemmas.List.{map-append}
use Rattle.std.proofs.lemmas.Nat.{mul-add-lt}
use Rattle.latin_board.specs.Lines.{line_cell}
use Rattle.latin_board.proofs.LatinLines.{line_cell-column, line_cell-row, line_cell_inside}
use Rattle.latin_board.proofs.PeerLines.{line_peers}
use Rattle.trail_solver.specs.Pairs.{has_pair, pairs_of}
use Rattle.trail_solver.specs.Candidates.{CandidatesValue}
use Rattle.trail_solver.specs.Puzzles.{Puzzle}
use Rattle.trail_solver.proofs.Removals.{set_below}
use Rattle.trail_solver.proofs.SetPairs.{has_pair-pairs_of}
use Rattle.line_steps.specs.Left.{without}
use Rattle.line_steps.specs.Along.{LooksAlong, StandsAlong}
use Rattle.line_steps.specs.Grades.{IsLower, rank}
use Rattle.line_steps.proofs.LinePasses.{latin_has}
use Rattle.line_steps.specs.declared.grade.Grade.TheVariants.{Easy}
use Rattle.line_steps.specs.Laws.Along.{clue_own}
use Rattle.line_steps.specs.Reasons.{AllStrikes, IsByPeer, IsByPlace, IsBySet, Striking}
use Rattle.line_steps.specs.Settled.{AreCluesSettled, AreGivensSettled, IsSettled}
use Rattle.line_steps.specs.Inner.LineStrikes.{IsRestQuiet}
use Rattle.line_steps.specs.Inner.Groups.{IsGroupQuiet}
use Rattle.line_steps.proofs.Chains.{IsAntitone}
use Rattle.line_steps.proofs.Rounds.{settled_all}
use Rattle.line_steps.proofs.LineLooks.{StandOnLines}
use Rattle.line_steps.specs.declared.reason.Reason.{Reason}
use Rattle.line_steps.specs.declared.reason.Reason.TheVariants.{Given, Peer, Place, Bound, Stand, Clue, Sign, Set}
use Rattle.line_steps.specs.declared.grade.Grade.{Grade}
use Rattle.step_chains.specs.declared.chain.Step.{Step}
use Rattle.step_chains.specs.ChainValues.{step_value, steps_of}
use Rattle.step_chains.specs.Inner.Replays.{Leads}
use Rattle.step_chains.specs.Inner.Listed.{IsFoundAt, IsSignAt, place_count}
use Rattle.step_chains.specs.Inner.Quiet.{IsNew, IsIdle, AreIdleIn}
use Rattle.step_chains.specs.declared.reasons.Part.{Part}
use Rattle.step_chains.specs.declared.reasons.Part.TheVariants.{Squares, Places, Clues, Signs, Groups}
use Rattle.step_chains.proofs.Idle.{group_inside}
use Rattle.step_chains.proofs.Followed.{leads_joined}

-- no reason of the list strikes anything more
abbrev pub AreAllIdle : Striking → Grade → CandidatesValue → Type 0
AreAllIdle Struck grade c = (part : Part) → AreIdleIn Struck grade c part

-- a property of each of the five parts of the list is one of every part
pub all_parts : (P : Part → Type 0) → P Squares → P Places → P Clues → P Signs → P Groups → (part : Part) → P part
all_parts P squares places clues signs groups part = grind (arith, nat_tests)

-- if no reason of the list strikes anything more, the reason at a place of it doesn't
found_idle : (Struck : Striking) (grade : Grade) (c : CandidatesValue) (part : Part) (place : ℕ) (reason : Reason)
    → AreAllIdle Struck grade c → place < place_count c.size part → ((found : Option Reason) → IsFoundAt c part place found → found ≡ Some reason)
    → IsIdle Struck grade c reason
found_idle Struck grade c part place reason idle low there =
    let (found, is, none) = idle part place low in subst (λ x. IfSome x (IsIdle Struck grade c)) (there found is) none

-- if no reason of the list strikes anything more, no given does
givens_settled : (p : Puzzle) (Own : Striking) (grade : Grade) (c : CandidatesValue)
    → AreAllIdle (AllStrikes p Own) grade c → AreGivensSettled p c
givens_settled p Own grade c idle = λ at cell value pair h.
    let inside : at < c.size * c.size = subst (λ (n : ℕ). n < c.size * c.size) h.here pair.inside in
    found_idle (AllStrikes p Own) grade c Squares (2 * at) (Given at) idle (omega (arith, inside)) (λ found is. is.0 at refl)
    cell value (latin_has grade (Given at) refl) pair h

-- if no reason of the list strikes anything more, no square as a peer does
peer_idle : (Struck : Striking) (grade : Grade) (c : CandidatesValue) (by : ℕ) → AreAllIdle Struck grade c
    → by < c.size * c.size → IsIdle Struck grade c (Peer by)
peer_idle Struck grade c by idle inside =
    found_idle Struck grade c Squares (2 * by + 1) (Peer by) idle (omega (arith, inside)) (λ found is. is.1 by refl)

-- if no reason of the list strikes anything more, no value in a place of a line does
place_idle : (Struck : Striking) (grade : Grade) (c : CandidatesValue) (line index other : ℕ) → AreAllIdle Struck grade c
    → line < 2 * c.size → index < c.size → other < c.size → IsIdle Struck grade c (Place line index (other + 1))
place_idle Struck grade c line index other idle line_is index_is low =
    let below : (line * c.size + index) * c.size + other < 2 * c.size * (c.size * c.size) =
    omega (arith, mul-add-lt (line * c.size + index) c.size other (c.size * (2 * c.size)) (mul-add-lt line c.size index (2 * c.size) line_is index_is) low) in
    found_idle Struck grade c Places ((line * c.size + index) * c.size + other) (Place line index (other + 1)) idle below
    (λ found is. is line index other index_is low refl)

-- if no reason of the list strikes anything more, no peer and no place along a line does
rest_settled : (p : Puzzle) (Own : Striking) (grade : Grade) (c : CandidatesValue) → p.size ≡ c.size
    → AreAllIdle (AllStrikes p Own) grade c → (line : ℕ) → line < 2 * c.size → IsRestQuiet line c
rest_settled p Own grade c size idle line line_is = λ k v low pair h. elim h [
  | inl peer ↦
      let by = line_cell c.size line peer.0 in
      let cell = line_cell c.size line k in
      let is : IsByPeer c.size c by cell v = record { peers = line_peers c.size line peer.0 k line_is peer.1 low peer.2; alone = peer.3 } in
      peer_idle (AllStrikes p Own) grade c by idle (line_cell_inside c.size line peer.0 line_is peer.1) cell v (latin_has grade (Peer by) refl) pair
      (subst (λ (w : ℕ). IsByPeer w c by cell v) (sym size) is)
  | inr place ↦
      let cell = line_cell c.size line k in
      let is : IsByPlace c.size c line k place.0 cell v =
      record { line_is = line_is; index_is = low; low = place.1; high = place.2; here = refl; apart = place.3; alone = place.4 } in
      let same : place.0 - 1 + 1 ≡ place.0 = omega (arith, place.1) in
      subst (λ (u : ℕ). IsIdle (AllStrikes p Own) grade c (Place line k u)) same
      (place_idle (AllStrikes p Own) grade c line k (place.0 - 1) idle line_is low (omega (arith, place.1, place.2))) cell v
      (latin_has grade (Place line k place.0) refl) pair
      (subst (λ (w : ℕ). IsByPlace w c line k place.0 cell v) (sym size) is)
]

-- squares that follow each other on a line are neighbours
next_on : (w line k : ℕ) → (line_cell w line k + 1 ≡ line_cell w line (k + 1)) ⊎ (line_cell w line k + w ≡ line_cell w line (k + 1))
next_on w line k = grind (arith, cases_lt, line_cell-row, line_cell-column)

-- if no reason of the list strikes anything more, no sign between two neighbours does
sign_idle : (Struck : Striking) (grade : Grade) (c : CandidatesValue) (at from to : ℕ) → AreAllIdle Struck grade c
    → at < 4 * (c.size * c.size) → IsSignAt c.size at from to → IsIdle Struck grade c (Sign from to)
sign_idle Struck grade c at from to idle low there =
    found_idle Struck grade c Signs at (Sign from to) idle low (λ found is. is from to there)

-- if no reason of the list strikes anything more, no clue or sign that looks along a line does
along_idle : (Struck : Striking) (grade : Grade) (c : CandidatesValue) → AreAllIdle Struck grade c
    → (line : ℕ) (reason : Reason) (cell : ℕ) → line < 2 * c.size → LooksAlong c.size line reason cell → IsIdle Struck grade c reason
along_idle Struck grade c idle line (Bound place) cell low along = found_idle Struck grade c Clues (3 * place) (Bound place) idle
    (omega (arith, along.0)) (λ found is. is.0 place refl)
along_idle Struck grade c idle line (Stand place) cell low along = found_idle Struck grade c Clues (3 * place + 1) (Stand place) idle
    (omega (arith, along.0)) (λ found is. is.1.0 place refl)
along_idle Struck grade c idle line (Clue place) cell low along = found_idle Struck grade c Clues (3 * place + 2) (Clue place) idle
    (omega (arith, along.0)) (λ found is. is.1.1 place refl)
along_idle Struck grade c idle line (Sign from to) cell low (here, inl (k, inside, first, second)) =
    let to_is : to < c.size * c.size = subst (λ (n : ℕ). n < c.size * c.size) second (line_cell_inside c.size line (k + 1) low inside) in
    elim (next_on c.size line k) [
      | inl beside ↦ sign_idle Struck grade c (4 * to + 1) from to idle (omega (arith, to_is)) (inr (inl (refl, ap (λ n. n + 1) (sym first) ∙ beside ∙ second)))
      | inr below ↦ sign_idle Struck grade c (4 * to) from to idle (omega (arith, to_is)) (inl (refl, ap (λ n. n + c.size) (sym first) ∙ below ∙ second))
    ]
along_idle Struck grade c idle line (Sign from to) cell low (here, inr (k, inside, first, second)) =
    let to_is : to < c.size * c.size = subst (λ (n : ℕ). n < c.size * c.size) first (line_cell_inside c.size line k low (omega (arith, inside))) in
    elim (next_on c.size line k) [
      | inl beside ↦ sign_idle Struck grade c (4 * to + 2) from to idle (omega (arith, to_is))
          (inr (inr (inl (refl, sym (ap (λ n. n + 1) (sym first) ∙ beside ∙ second)))))
      | inr below ↦ sign_idle Struck grade c (4 * to + 3) from to idle (omega (arith, to_is))
          (inr (inr (inr (refl, sym (ap (λ n. n + c.size) (sym first) ∙ below ∙ second)))))
    ]
along_idle Struck grade c idle line reason cell low along = absurd along

-- if no reason of the list strikes anything more, no clue or sign of the game does
clues_settled : (p : Puzzle) (Own : Striking) → StandOnLines p Own → (grade : Grade) (c : CandidatesValue) → p.size ≡ c.size
    → AreAllIdle (AllStrikes p Own) grade c → AreCluesSettled (AllStrikes p Own) grade c
clues_settled p Own stand grade c size idle = λ reason cell value is has pair h.
    let stands = stand c reason cell value (clue_own p Own c reason cell value is h) in
    let (line, low, along) = subst (λ (w : ℕ). StandsAlong w reason cell) size stands in
    along_idle (AllStrikes p Own) grade c idle line reason cell low along cell value has pair h

-- if no reason of the list strikes anything more, no group of squares of a line does
groups_settled : (p : Puzzle) (Own : Striking) (grade : Grade) (c : CandidatesValue) → p.size ≡ c.size
    → AreAllIdle (AllStrikes p Own) grade c → IsLower Easy grade → (line : ℕ) → line < 2 * c.size → IsGroupQuiet line c
groups_settled p Own grade c size idle past line line_is = λ cell value pair h.
    let is : IsBySet c.size c line h.squares h.union cell value = grind (arith, group_inside) in
    let at = line * 2 ^ c.size + h.squares in
    let low : at < 2 * c.size * 2 ^ c.size = omega (arith, mul-add-lt line (2 ^ c.size) h.squares (2 * c.size) line_is h.below) in
    found_idle (AllStrikes p Own) grade c Groups at (Set line h.squares h.union) idle low
    (λ found there. there line h.squares h.union line_is h.below refl (h.is, h.same)) cell value (le-leb 2 (rank grade) (omega (arith, past))) pair
    (subst (λ (w : ℕ). IsBySet w c line h.squares h.union cell value) (sym size) is)

-- if no reason of the list strikes anything more, the grade is settled
pub idle_settled : (p : Puzzle) (Own : Striking) → StandOnLines p Own → (grade : Grade) (c : CandidatesValue) → c.size ≤ 9
    → c.size ≡ p.size → AreAllIdle (AllStrikes p Own) grade c → IsSettled (AllStrikes p Own) grade c
idle_settled p Own stand grade c small size idle =
    settled_all p Own grade c small size (givens_settled p Own grade c idle) (rest_settled p Own grade c (sym size) idle)
    (clues_settled p Own stand grade c (sym size) idle) (groups_settled p Own grade c (sym size) idle)

-- ---- one step after another

-- a list that has a pair isn't empty
some_pair : (pairs : List (ℕ × ℕ)) (cell v : ℕ) → has_pair pairs cell v ≡ true → 0 < length pairs
some_pair pairs cell v has = grind (arith, common_steps)

-- to take away what a new step strikes makes the trail longer
pub new_longer : (Struck : Striking) (grade : Grade) (c d : CandidatesValue) (s : Step) → c.size ≤ 9 → IsNew Struck grade c s
    → d.trail ≡ c.trail ++ pairs_of s.cell s.values → length c.trail < length d.trail
new_longer Struck grade c d s small new is =
    let low = set_below c.size s.cell s.values small (λ v has. (new.left v has).0) in
    let one = some_pair (pairs_of s.cell s.values) s.cell new.some.0 (grind (arith, has_pair-pairs_of, and_from, eq-eqb)) in
    omega (arith, one, ap length is, length-append c.trail (pairs_of s.cell s.values))

-- steps and then a new one lead to the candidates from which its pairs are taken
pub new_leads : (Struck : Striking) → IsAntitone Struck → (grade : Grade) (c d e : CandidatesValue) (steps more : List Step)
    (s : Step) → Leads Struck grade c (steps_of steps) d → IsNew Struck grade d s → e.size ≡ d.size → e.trail ≡ d.trail ++ pairs_of s.cell s.values
    → more ≡ steps ++ s ∷ [] → Leads Struck grade c (steps_of more) e
new_leads Struck less grade c d e steps more s before new size trail is =
    let listed : steps_of more ≡ steps_of steps ++ step_value s ∷ [] = ap steps_of is ∙ map-append step_value steps (s ∷ []) in
    let end : without d (step_value s).strikes ≡ e = λ i. record { size = sym size i; trail = sym trail i } in
    let one : Leads Struck grade d (step_value s ∷ []) (without d (step_value s).strikes) = grind arith in
    subst (λ xs. Leads Struck grade c xs e) (sym listed)
    (leads_joined Struck less grade c d e (steps_of steps) (step_value s ∷ []) before (subst (λ x. Leads Struck grade d (step_value s ∷ []) x) end one))
