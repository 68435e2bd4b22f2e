use Rattle.line_steps.specs.Laws.Along.{all_look}
use Rattle.line_steps.specs.Reasons.{StruckBy}
use Rattle.std.proofs.Common.{◌≡◌, ℕ, ◌+◌, ◌-◌, ◌*◌, ◌%◌, ◌^◌, ◌<◌, ◌≤◌, Bool, true, false, length, sym, ap, ◌∙◌, subst, arith}
use Rattle.std.proofs.lemmas.Nat.{mod_below, pow_pos}
use Rattle.trail_solver.specs.Candidates.{CandidatesValue}
use Rattle.line_steps.specs.Inner.ChangedLines.{IsNoted, IsTaken}
use Rattle.line_steps.specs.Inner.LineLooks.{IsLook, IsQuietOn, waiting_for}
use Rattle.line_steps.proofs.LineSets.{cube_most, lost_one, nearer, set_less}
use Rattle.line_steps.proofs.LineLooks.{each_noted, looked, looks_stay, none_lost}
use Rattle.line_steps.proofs.Leads.{leads_fewer, leads_length, leads_on, leads_size}
use Rattle.line_steps.specs.declared.lines.waiting.Waiting.{Waiting}
use Rattle.line_steps.proofs.lines.settling.look.Goals as goal

-- a look is nearer to its end where something went, or one line less waits
near : (a b : CandidatesValue) (was now : Waiting) → length a.trail ≤ length b.trail → length a.trail ≤ 729
    → (length b.trail ≡ length a.trail → now.squares % 2 ^ 32 + now.clues % 2 ^ 32 < was.squares % 2 ^ 32 + was.clues % 2 ^ 32)
    → (730 - length b.trail) * 2 ^ 33 + (now.squares % 2 ^ 32 + now.clues % 2 ^ 32)
    < (730 - length a.trail) * 2 ^ 33 + (was.squares % 2 ^ 32 + was.clues % 2 ^ 32)
near a b was now longer bound less =
    let first : now.squares % 2 ^ 32 < 2 ^ 32 = mod_below now.squares (2 ^ 32) (pow_pos 32) in
    let second : now.clues % 2 ^ 32 < 2 ^ 32 = mod_below now.clues (2 ^ 32) (pow_pos 32) in
    nearer (length a.trail) (length b.trail) (was.squares % 2 ^ 32 + was.clues % 2 ^ 32) (now.squares % 2 ^ 32 + now.clues % 2 ^ 32) longer bound
    (omega (arith, first, second)) less

-- a set that lost a line is a lesser number
set_lost : (count line was now : ℕ) → count ≤ 32 → IsTaken count was now line → now % 2 ^ 32 < was % 2 ^ 32
set_lost count line was now small taken =
    set_less line was now (omega (arith, taken.one.0, small)) taken.one.1 (λ k out. lost_one line k was now taken.rest out)

-- after a line was taken, the numbers of the two waiting sets add up to less
one_less : (count : ℕ) (was now : Waiting) (what : Bool) (line : ℕ) → count ≤ 32 → IsLook count was now what line
    → now.squares % 2 ^ 32 + now.clues % 2 ^ 32 < was.squares % 2 ^ 32 + was.clues % 2 ^ 32
one_less count was now true line small look =
    let less = set_lost count line was.squares now.squares small look.taken in
    let same : now.clues % 2 ^ 32 ≡ was.clues % 2 ^ 32 = ap (λ (n : ℕ). n % 2 ^ 32) look.other in
    omega (arith, less, same)
one_less count was now false line small look =
    let less = set_lost count line was.clues now.clues small look.taken in
    let same : now.squares % 2 ^ 32 ≡ was.squares % 2 ^ 32 = ap (λ (n : ℕ). n % 2 ^ 32) look.other in
    omega (arith, less, same)

pub strike_along-requires : goal.strike_along-requires
strike_along-requires g c =
    let same = leads_size _ _ _ _ c.looks.invariant.leads in
    record {
      size = same ∙ c.requires.size;
      line = omega (arith, same, c.in-Some.ensures.look.taken.one.0, c.get-width.ensures.value, c.size.ensures.value);
    }

pub returns-in_default-strike_along-clause-leads : goal.returns-in_default-strike_along-clause-leads
returns-in_default-strike_along-clause-leads g c = leads_on _ _ _ _ _ c.looks.invariant.leads c.strike_along.ensures.leads

pub looks-smaller : goal.looks-smaller
looks-smaller g c =
    let now = c.looks.candidates in
    let taken = c.take.new.self in
    let last = c.note.new.self in
    let size = leads_size _ _ _ _ c.looks.invariant.leads in
    let cube = cube_most now.size (omega (arith, size, c.size.ensures.valid.largest)) in
    let one = one_less _ _ _ _ _ (omega (arith, c.get-width.ensures.largest)) c.in-Some.ensures.look in
    near now c.strike_along.new.candidates c.looks.waiting last (leads_length _ _ _ _ c.strike_along.ensures.leads)
    (omega (arith, c.trail_len-length.ensures.value, c.trail_len-length.ensures.bound, cube))
    (λ still.
    let same : last ≡ taken = c.note.ensures.none (none_lost _ _ _ _ c.in-Some-strike_along.ensures.loses still) in
    let squares : last.squares % 2 ^ 32 ≡ taken.squares % 2 ^ 32 = ap (λ (x : Waiting). x.squares % 2 ^ 32) same in
    let clues : last.clues % 2 ^ 32 ≡ taken.clues % 2 ^ 32 = ap (λ (x : Waiting). x.clues % 2 ^ 32) same in
    omega (arith, squares, clues, one))

pub looks-preserved : goal.looks-preserved
looks-preserved g c =
    let p = c.args.p.now in
    let Struck = StruckBy g.P.LinePass.puzzle g.P.LinePass.own p in
    let grade = g.P.LinePass.grade p in
    let w = (g.P.LinePass.puzzle p).size in
    let now = c.looks.candidates in
    let line = c.in-Some.line in
    let places = c.in-Some-strike_along.places in
    let taken = c.take.new.self in
    let last = c.note.new.self in
    let leads = c.strike_along.ensures.leads in
    let same = leads_size _ _ _ _ c.looks.invariant.leads in
    let width : c.get-width.result ≡ now.size = c.get-width.ensures.value ∙ c.size.ensures.value ∙ sym same in
    let noted : (x : Bool) → IsNoted now.size line places (waiting_for x taken) (waiting_for x last) =
    subst (λ (n : ℕ). (x : Bool) → IsNoted n line places (waiting_for x taken) (waiting_for x last)) width
    (each_noted c.get-width.result line places taken last c.note.ensures.squares c.note.ensures.clues) in
    record {
      leads = leads_on _ _ _ _ _ c.looks.invariant.leads leads;
      waits = λ first. looked w (IsQuietOn Struck grade)
          (looks_stay w Struck (all_look (g.P.LinePass.puzzle p) (g.P.LinePass.own p) (g.met.P.LinePass.looks_along p)) grade) _ _ _ _ _ _ _ _ _
          (same ∙ c.requires.size) (leads_size _ _ _ _ leads) (leads_fewer _ _ _ _ leads) (omega (arith, width, c.in-Some.ensures.look.taken.one.0))
          c.in-Some-strike_along.ensures.loses c.in-Some.ensures.look noted c.in-Some-strike_along.ensures.quiet (c.looks.invariant.waits first);
      from_squares = c.take.ensures.from_squares;
      from_clues = c.take.ensures.from_clues;
    }

pub returns-in_default-clause-quiet : goal.returns-in_default-clause-quiet
returns-in_default-clause-quiet g c = λ first line low what.
    let size = leads_size _ _ _ _ c.looks.invariant.leads in
    c.looks.invariant.waits first what line low
    (c.in_default.ensures.none what line (omega (arith, low, size, c.get-width.ensures.value, c.size.ensures.value)))
