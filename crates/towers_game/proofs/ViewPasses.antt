-- Values that clues take away are struck by them, and where they take nothing they are settled.
use Rattle.std.proofs.lemmas.Bool.Decides.{nat_tests}
use Rattle.std.proofs.Common.{◌≡◌, ◌≢◌, ℕ, ◌+◌, ◌*◌, ◌<◌, true, List, slice_index, sym, ap, ◌∙◌, subst, arith}
use Rattle.number_sets.specs.Sets.{has_number}
use Rattle.trail_solver.specs.Pairs.{IsPair}
use Rattle.trail_solver.specs.Candidates.{CandidatesValue}
use Rattle.towers_game.specs.Towers.{TowersValue, clue_of}
use Rattle.latin_board.specs.Lines.{line_cell}
use Rattle.line_steps.specs.Views.{view_cell, view_line, view_index, front_place}
use Rattle.line_steps.specs.Laws.Edges.{view_index_low}
use Rattle.towers_game.specs.Fillings.{IsUnfilled}
use Rattle.towers_game.specs.TowersReasons.{IsByClue, IsTowersStruckBy}
use Rattle.line_steps.specs.Reasons.{AreStruckFrom}
use Rattle.line_steps.specs.Grades.{has_reason}
use Rattle.towers_game.specs.Laws.TowersReasons.{towers_less, clue_was}
use Rattle.line_steps.specs.Chains.{LeadsTo}
use Rattle.line_steps.specs.Along.{StaysOn}
use Rattle.line_steps.specs.Takes.{Takes}
use Rattle.towers_game.specs.Inner.TowersLooks.{IsViewQuiet, AreViewsQuiet}
use Rattle.towers_game.specs.Rows.{May, look_grade}
use Rattle.towers_game.specs.Inner.RowSets.{IsAlong}
use Rattle.line_steps.proofs.Leads.{leads_taken}
use Rattle.line_steps.proofs.Takes.{takes_map}
use Rattle.line_steps.specs.declared.reason.Reason.{Reason}
use Rattle.line_steps.specs.declared.reason.Reason.TheVariants.{Bound, Stand, Clue}
use Rattle.towers_game.specs.declared.towers.clue_rows.Look.{Look}
use Rattle.towers_game.specs.declared.towers.clue_rows.Look.TheVariants.{Alone, Stands, Marks}
use Rattle.line_steps.proofs.LineEnds.{ends}

-- turning an index from a place into one of its line, twice in turn, gives back the index
view_index_twice : (w place k : ℕ) → k < w → view_index w place (view_index w place k) ≡ k
view_index_twice w place k low = grind (arith, nat_tests)

-- taking the struck values away in the order of the line takes those that are in no filling from the place
pub view_taken : (May : ℕ → ℕ → Type 0) (line place clue : ℕ) (row along : List ℕ) (a b : CandidatesValue) → view_line a.size place ≡ line
    → AreStruckFrom a.size (IsUnfilled a.size May place clue) place a.size row → IsAlong a.size place row a.size along
    → Takes (λ cell v. (k : ℕ) × (k < a.size) × (cell ≡ line_cell a.size line k) × (has_number (slice_index along k) v ≡ true)) a b
    → Takes (λ cell v. IsUnfilled a.size May place clue cell v) a b
view_taken May line place clue row along a b on r is t =
    let w = a.size in
    let at : (k : ℕ) → view_cell w place k ≡ line_cell w line (view_index w place k) = λ k. ap (λ (l : ℕ). line_cell w l (view_index w place k)) on in
    takes_map (λ cell v. (k : ℕ) × (k < w) × (cell ≡ line_cell w line k) × (has_number (slice_index along k) v ≡ true))
    (λ cell v. IsUnfilled w May place clue cell v) a b
    (λ cell v h.
    let j = view_index w place h.0 in
    let low : j < w = view_index_low w place h.0 h.1 in
    let has : has_number (slice_index row j) v ≡ true = subst (λ (set : ℕ). has_number set v ≡ true) (is.each h.0 h.1) h.3 in
    let here : view_cell w place j ≡ cell = at j ∙ ap (line_cell w line) (view_index_twice w place h.0 h.1) ∙ sym h.2 in
    subst (λ (n : ℕ). IsUnfilled w May place clue n v) here ((r.each j v low).0 has).1)
    (λ cell v pair h.
    let k = view_index w place h.index in
    let low : k < w = view_index_low w place h.index h.inside in
    let there : IsPair w (view_cell w place h.index) v = subst (λ (n : ℕ). IsPair w n v) (sym h.here) pair in
    let again : IsUnfilled w May place clue (view_cell w place h.index) v = subst (λ (n : ℕ). IsUnfilled w May place clue n v) (sym h.here) h in
    let has : has_number (slice_index row h.index) v ≡ true = (r.each h.index v h.inside).1 (there, again) in
    let set : slice_index along k ≡ slice_index row h.index = is.each k low ∙ ap (slice_index row) (view_index_twice w place h.index h.inside) in
    (k, low, sym h.here ∙ at h.index, subst (λ (n : ℕ). has_number n v ≡ true) (sym set) has)) t

-- the reason that looks at the clue of a place in this way
abbrev look_reason : Look → ℕ → Reason
look_reason Alone place = Bound place
look_reason Stands place = Stand place
look_reason Marks place = Clue place

-- the reason of a look is of its grade
look_has : (look : Look) (place : ℕ) → has_reason (look_grade look) (look_reason look place) ≡ true
look_has look place = grind (arith, nat_tests)

-- a value that the clue of a place strikes in one way to look at it is struck by the reason of that look
look_struck : (v : TowersValue) (look : Look) (c : CandidatesValue) (place cell value : ℕ) → IsByClue v (May look c) place cell value
    → IsTowersStruckBy v c (look_reason look place) cell value
look_struck v Alone c place cell value h =
    record { place_is = h.place_is; clued = h.clued; unfilled = h.unfilled }
look_struck v Stands c place cell value h =
    record { place_is = h.place_is; clued = h.clued; unfilled = h.unfilled }
look_struck v Marks c place cell value h =
    record { place_is = h.place_is; clued = h.clued; unfilled = h.unfilled }

-- taking away the values that are in no filling from a place is a chain of its clue's reason
pub view_leads : (v : TowersValue) (look : Look) (place clue : ℕ) (a b : CandidatesValue) → a.size ≡ v.size → place < 4 * a.size → clue ≡ clue_of v place
    → clue ≢ 0 → Takes (λ cell x. IsUnfilled a.size (May look a) place clue cell x) a b → LeadsTo (IsTowersStruckBy v) (look_grade look) a b
view_leads v look place clue a b size place_in is some t =
    let A : ℕ → ℕ → ℕ → ℕ → Type 0 = λ n k cell x. IsUnfilled n (May look a) place k cell x in
    leads_taken (IsTowersStruckBy v) (towers_less v) (look_grade look) (λ cell x. IsUnfilled a.size (May look a) place clue cell x) a b t
    (λ cell x pair h. (
      look_reason look place,
      look_has look place,
      look_struck v look a place cell x (record {
        place_is = omega (arith, size, place_in);
        clued = omega (arith, is, some);
        unfilled = subst (λ (n : ℕ). A n (clue_of v place) cell x) size (subst (λ (k : ℕ). A a.size k cell x) is h);
      }),
    ))

-- once the values in no filling are gone, the clue strikes nothing that is left, if all stayed on its line
pub view_calm : (v : TowersValue) (look : Look) (line place clue : ℕ) (a b : CandidatesValue) → a.size ≡ v.size → place < 4 * a.size
    → view_line a.size place ≡ line → clue ≡ clue_of v place → Takes (λ cell x. IsUnfilled a.size (May look a) place clue cell x) a b → StaysOn line a b
    → IsViewQuiet v look place b
view_calm v look line place clue a b size place_in on is t stays cell value pair h =
    let was = clue_was v look place cell value a b size place_in (subst (λ (l : ℕ). StaysOn l a b) (sym on) stays) h in
    let A : ℕ → ℕ → ℕ → ℕ → Type 0 = λ n k c x. IsUnfilled n (May look a) place k c x in
    let struck : A a.size clue cell value = subst (λ (k : ℕ). A a.size k cell value) (sym is) (subst (λ (n : ℕ). A n (clue_of v place) cell value) (sym size) was.unfilled) in
    t.gone cell value (subst (λ (w : ℕ). IsPair w cell value) t.size pair) struck

-- where the clues at both ends strike nothing, no clue along the line does
pub ends_quiet : (v : TowersValue) (look : Look) (line : ℕ) (c : CandidatesValue) → IsViewQuiet v look (front_place c.size line) c
    → IsViewQuiet v look (front_place c.size line + c.size) c → AreViewsQuiet v look line c
ends_quiet v look line c front back place low on = grind (arith, nat_tests, ends)
