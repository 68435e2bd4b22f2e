-- The strikes of Towers' clues: from fewer candidates too, in no solution, in the whole puzzle if in a cut,
-- and along which lines.
use Rattle.std.proofs.lemmas.Bool.Decides.{nat_tests}
use Rattle.std.proofs.Common.{◌≡◌, ◌≢◌, ℕ, ◌*◌, ◌<◌, Bool, slice_index, sym, ap, ◌∙◌, subst, arith}
use Rattle.latin_board.specs.Squares.{GridValue, IsGrid, IsLatin, number_at}
use Rattle.latin_board.proofs.LatinLines.{line_differs, latin_full}
use Rattle.latin_board.proofs.Numbers.{number_within}
use Rattle.tower_lines.specs.TowersSeen.{seen}
use Rattle.trail_solver.specs.Pairs.{IsPair}
use Rattle.trail_solver.specs.Candidates.{CandidatesValue, IsWithin}
use Rattle.trail_solver.specs.Puzzles.{Solves}
use Rattle.line_steps.specs.Views.{line_from, view_cell, view_line, view_index}
use Rattle.towers_game.specs.Towers.{TowersValue, HoldsClues, clue_of, cut_towers, towers_puzzle}
use Rattle.line_steps.specs.Left.{IsLeft, IsFewer}
use Rattle.towers_game.specs.Fillings.{Anything, Standing, IsFillingFrom, IsUnfilled}
use Rattle.towers_game.specs.TowersReasons.{IsByClue, IsTowersOwn, IsTowersStruckBy}
use Rattle.line_steps.specs.Along.{StaysOn, IsOn, LooksAlong, StandsAlong, IsQuietAlong}
use Rattle.towers_game.specs.Inner.TowersLooks.{IsViewQuiet, AreViewsQuiet}
use Rattle.towers_game.specs.Rows.{May}
use Rattle.line_steps.specs.Laws.Along.{quiet_own, was_gone}
use Rattle.trail_solver.proofs.KeptItems.{kept_number}
use Rattle.line_steps.specs.Laws.Edges.{view_index_low, view_line_low}
use Rattle.line_steps.specs.Laws.Less.{all_less}
use Rattle.line_steps.specs.Laws.LineSquares.{view_index_apart, view_inside}
use Rattle.line_steps.specs.Laws.Sound.{IsSquareOf, square_of}
use Rattle.towers_game.specs.Laws.TowersItems.{length-line_from, clues_decide}
use Rattle.towers_game.specs.Laws.ViewLines.{view_number}
use Rattle.towers_game.specs.declared.towers.clue_rows.Look.{Look}
use Rattle.towers_game.specs.declared.towers.clue_rows.Look.TheVariants.{Alone, Stands, Marks}
use Rattle.line_steps.specs.declared.reason.Reason.{Reason}
use Rattle.line_steps.specs.declared.reason.Reason.TheVariants.{Bound, Stand, Clue}
use Rattle.line_steps.specs.declared.grade.Grade.TheVariants.{Easy, Hard}

-- ---- fewer candidates

-- a pair that a clue strikes by what may stand along its line is struck, too, if less may stand there
clue_less : (v : TowersValue) (May Less : ℕ → ℕ → Type 0) (place cell value : ℕ)
    → ((k u : ℕ) → k < v.size → Less (view_cell v.size place k) u → May (view_cell v.size place k) u)
    → IsByClue v May place cell value → IsByClue v Less place cell value
clue_less v May Less place cell value fewer h = grind (arith, nat_tests)

-- a value that may stand in a square may still stand there if the square has lost nothing
may_stays : (look : Look) (c d : CandidatesValue) (cell value : ℕ) → ((u : ℕ) → IsLeft c cell u → IsLeft d cell u)
    → May look c cell value → May look d cell value
may_stays Alone c d cell value stays may = tt
may_stays Stands c d cell value stays may = λ alone none. may alone (λ other left. none other (stays other left))
may_stays Marks c d cell value stays may = stays value may

-- what a clue strikes it strikes from fewer
pub towers_own_less : (v : TowersValue) (c d : CandidatesValue) (reason : Reason) (cell value : ℕ) → IsFewer c d
    → IsTowersOwn v c reason cell value → IsTowersOwn v d reason cell value
towers_own_less v c d (Bound place) cell value fewer h = h
towers_own_less v c d (Stand place) cell value fewer h =
    clue_less v (Standing c) (Standing d) place cell value (λ k u low. may_stays Stands d c _ u (fewer _)) h
towers_own_less v c d (Clue place) cell value fewer h =
    clue_less v (IsLeft c) (IsLeft d) place cell value (λ k u low. may_stays Marks d c _ u (fewer _)) h
towers_own_less v c d reason cell value fewer h = absurd h

-- a pair that a reason of Towers strikes is struck from fewer candidates, too
pub towers_less : (v : TowersValue) (c d : CandidatesValue) (reason : Reason) (cell value : ℕ) → IsFewer c d
    → IsTowersStruckBy v c reason cell value → IsTowersStruckBy v d reason cell value
towers_less v = all_less (towers_puzzle v) (IsTowersOwn v) (towers_own_less v)

-- ---- solutions

-- the line of a square from a place is a filling, by whatever its numbers may be
square_filling : (May : ℕ → ℕ → Type 0) (place clue : ℕ) (g : GridValue) → place < 4 * g.size → IsGrid g → IsLatin g
    → ((cell : ℕ) → cell < g.size * g.size → May cell (number_at g cell)) → seen (line_from g place) ≡ clue
    → IsFillingFrom g.size May place clue (line_from g place)
square_filling May place clue g inside is_grid latin may shown =
    let at : (k : ℕ) → k < g.size → slice_index (line_from g place) k ≡ number_at g (view_cell g.size place k) =
    λ k low. view_number g place k inside low in
    record {
      whole = length-line_from g place;
      pairs = λ k low.
          let cell_in = view_inside g.size place k inside low in
          subst (λ (v : ℕ). IsPair g.size (view_cell g.size place k) v) (sym (at k low)) (record {
            inside = cell_in;
            low = (latin_full g latin).each (view_cell g.size place k) cell_in;
            high = number_within g is_grid (view_cell g.size place k) cell_in;
          });
      may = λ k low.
          subst (May (view_cell g.size place k)) (sym (at k low))
          (may (view_cell g.size place k) (view_inside g.size place k inside low));
      apart = λ i j before low same.
          let first : i < g.size = omega arith in
          line_differs g is_grid latin (view_line g.size place) (view_index g.size place i) (view_index g.size place j)
          (view_line_low g.size place inside) (view_index_low g.size place i first) (view_index_low g.size place j low)
          (view_index_apart g.size place i j first low (λ e. omega arith)) (sym (at i first) ∙ same ∙ at j low);
      shown = shown;
    }

-- a value that no filling from a place has in a square is not there in a Latin square that shows the clue
unfilled_sound : (w : ℕ) (May : ℕ → ℕ → Type 0) (place clue cell value : ℕ) (c : CandidatesValue) (g : GridValue)
    → place < 4 * w
    → IsSquareOf w c g → ((cell : ℕ) → cell < w * w → May cell (number_at g cell)) → seen (line_from g place) ≡ clue
    → IsUnfilled w May place clue cell value → number_at g cell ≢ value
unfilled_sound w May place clue cell value c g inside s may shown h = λ same.
    let P : ℕ → Type 0 =
    λ n. place < 4 * n → ((cell : ℕ) → cell < n * n → May cell (number_at g cell))
    → IsFillingFrom n May place clue (line_from g place) in
    let filling =
    subst P s.size (λ low each. square_filling May place clue g low s.is_grid s.latin each shown) inside may in
    let Q : ℕ → Type 0 =
    λ n. place < 4 * n → h.index < n
    → slice_index (line_from g place) h.index ≡ number_at g (view_cell n place h.index) in
    let at = subst Q s.size (λ low first. view_number g place h.index low first) inside h.inside in
    h.none (line_from g place) filling (at ∙ ap (number_at g) h.here ∙ same)

-- a value that a clue strikes by what may stand is in no solution whose numbers all may stand
clue_sound : (v : TowersValue) (May : ℕ → ℕ → Type 0) (place cell value : ℕ) (c : CandidatesValue) (g : GridValue)
    → Solves (towers_puzzle v) g
    → IsSquareOf v.size c g → ((cell : ℕ) → cell < v.size * v.size → May cell (number_at g cell))
    → IsByClue v May place cell value
    → number_at g cell ≢ value
clue_sound v May place cell value c g solved s may h =
    let holds : HoldsClues v g = (clues_decide v g).0 solved.clues in
    unfilled_sound v.size May place (clue_of v place) cell value c g h.place_is s may
    (holds.each place h.place_is h.clued) h.unfilled

-- what a clue strikes is in no solution within the candidates
pub towers_sound : (v : TowersValue) (c : CandidatesValue) (reason : Reason) (cell value : ℕ) (g : GridValue)
    → c.size ≡ v.size
    → Solves (towers_puzzle v) g → IsWithin c g → IsTowersOwn v c reason cell value → number_at g cell ≢ value
towers_sound v c (Bound place) cell value g size solved within h =
    clue_sound v Anything place cell value c g solved (square_of (towers_puzzle v) c g size solved within)
    (λ cell inside. tt) h
towers_sound v c (Stand place) cell value g size solved within h =
    let s = square_of (towers_puzzle v) c g size solved within in
    clue_sound v (Standing c) place cell value c g solved s
    (λ cell inside alone none. none (number_at g cell) (s.left cell inside)) h
towers_sound v c (Clue place) cell value g size solved within h =
    let s = square_of (towers_puzzle v) c g size solved within in
    clue_sound v (IsLeft c) place cell value c g solved s s.left h
towers_sound v c reason cell value g size solved within h = absurd h

-- ---- cuts

-- a value that a clue of a cut strikes is struck by that clue in the whole puzzle
clue_whole : (v : TowersValue) (keep : ℕ → Bool) (May : ℕ → ℕ → Type 0) (place cell value : ℕ)
    → IsByClue (cut_towers v keep) May place cell value
    → IsByClue v May place cell value
clue_whole v keep May place cell value h = grind (arith, nat_tests, kept_number)

-- what a clue strikes in a cut it strikes in the whole
pub towers_whole : (v : TowersValue) (keep : ℕ → Bool) (c : CandidatesValue) (reason : Reason) (cell value : ℕ)
    → IsTowersOwn (cut_towers v keep) c reason cell value → IsTowersOwn v c reason cell value
towers_whole v keep c (Bound place) cell value h = clue_whole v keep Anything place cell value h
towers_whole v keep c (Stand place) cell value h = clue_whole v keep (Standing c) place cell value h
towers_whole v keep c (Clue place) cell value h = clue_whole v keep (IsLeft c) place cell value h
towers_whole v keep c reason cell value h = absurd h

-- ---- lines

-- a pair that a clue strikes was struck by it before, if all stayed along its line
pub clue_was : (v : TowersValue) (look : Look) (place cell value : ℕ) (c d : CandidatesValue) → c.size ≡ v.size
    → place < 4 * c.size
    → StaysOn (view_line c.size place) c d → IsByClue v (May look d) place cell value
    → IsByClue v (May look c) place cell value
clue_was v look place cell value c d size place_is stays h =
    grind (arith, nat_tests, clue_less, may_stays, view_index_low)

-- a clue that strikes nothing strikes nothing where all stays along its line
pub view_stays : (v : TowersValue) (look : Look) (place : ℕ) (c d : CandidatesValue) → c.size ≡ v.size
    → place < 4 * c.size → d.size ≡ c.size → IsFewer c d
    → StaysOn (view_line c.size place) c d → IsViewQuiet v look place c → IsViewQuiet v look place d
view_stays v look place c d size place_is same fewer stays quiet cell value pair h =
    was_gone c d cell value same fewer pair
    (λ there. quiet cell value there (clue_was v look place cell value c d size place_is stays h))

-- a value that a clue along a line strikes was struck by it before, if all stayed along the line
towers_looks : (v : TowersValue) (look : Look) (place cell value line : ℕ) (c d : CandidatesValue) → c.size ≡ v.size
    → (place < 4 * c.size) × (view_line c.size place ≡ line) × IsOn c.size line cell → StaysOn line c d
    → IsByClue v (May look d) place cell value
    → IsByClue v (May look c) place cell value
towers_looks v look place cell value line c d size along stays h =
    clue_was v look place cell value c d size along.0 (subst (λ (l : ℕ). StaysOn l c d) (sym along.1) stays) h

-- a pair that a clue along a line strikes was struck by it before, if all stayed along the line
pub towers_look : (v : TowersValue) (c d : CandidatesValue) (reason : Reason) (cell value line : ℕ) → c.size ≡ v.size
    → line < 2 * c.size
    → LooksAlong c.size line reason cell → StaysOn line c d → IsTowersOwn v d reason cell value
    → IsTowersOwn v c reason cell value
towers_look v c d (Bound place) cell value line size low along stays h =
    towers_looks v Alone place cell value line c d size along stays h
towers_look v c d (Stand place) cell value line size low along stays h =
    towers_looks v Stands place cell value line c d size along stays h
towers_look v c d (Clue place) cell value line size low along stays h =
    towers_looks v Marks place cell value line c d size along stays h
towers_look v c d reason cell value line size low along stays h = absurd h

-- a clue that strikes looks along the line of its place
towers_stands : (v : TowersValue) (Stays : ℕ → ℕ → Type 0) (place cell value : ℕ) → IsByClue v Stays place cell value
    → (line : ℕ) × (line < 2 * v.size)
    × ((place < 4 * v.size) × (view_line v.size place ≡ line) × IsOn v.size line cell)
towers_stands v Stays place cell value h = grind (arith, nat_tests, view_index_low, view_line_low)

-- a clue that strikes looks along a line
pub towers_stand : (v : TowersValue) (c : CandidatesValue) (reason : Reason) (cell value : ℕ)
    → IsTowersOwn v c reason cell value → StandsAlong v.size reason cell
towers_stand v c (Bound place) cell value h = towers_stands v Anything place cell value h
towers_stand v c (Stand place) cell value h = towers_stands v (Standing c) place cell value h
towers_stand v c (Clue place) cell value h = towers_stands v (IsLeft c) place cell value h
towers_stand v c reason cell value h = absurd h

-- a value that is left of a square may stand there
left_stands : (c : CandidatesValue) (cell value : ℕ) → IsLeft c cell value → Standing c cell value
left_stands c cell value left = λ alone none. none value left

-- where clues strike nothing along a line by what stands in it, they strike nothing by Easy
easy_own : (v : TowersValue) (line : ℕ) (c : CandidatesValue) → AreViewsQuiet v Stands line c
    → IsQuietAlong (IsTowersOwn v) Easy line c
easy_own v line c quiet reason cell value has along pair h = grind (arith, nat_tests, clue_less)

-- where clues strike nothing along a line by what stands in it, no reason along it strikes by Easy
pub easy_along : (v : TowersValue) (line : ℕ) (c : CandidatesValue) → AreViewsQuiet v Stands line c
    → IsQuietAlong (IsTowersStruckBy v) Easy line c
easy_along v line c quiet = quiet_own (towers_puzzle v) (IsTowersOwn v) Easy line c (easy_own v line c quiet)

-- where clues strike nothing along a line by all that is left in it, they strike nothing by Hard
hard_own : (v : TowersValue) (line : ℕ) (c : CandidatesValue) → AreViewsQuiet v Marks line c
    → IsQuietAlong (IsTowersOwn v) Hard line c
hard_own v line c quiet reason cell value has along pair h = grind (arith, nat_tests, clue_less, left_stands)

-- where clues strike nothing along a line by all that is left in it, no reason along it strikes by Hard
pub hard_along : (v : TowersValue) (line : ℕ) (c : CandidatesValue) → AreViewsQuiet v Marks line c
    → IsQuietAlong (IsTowersStruckBy v) Hard line c
hard_along v line c quiet = quiet_own (towers_puzzle v) (IsTowersOwn v) Hard line c (hard_own v line c quiet)
