-- Known squares, one more at a time.
use Rattle.std.proofs.Common.{◌≡◌, ◌<◌, ◌≤◌, ◌+◌, ◌*◌, ℕ, List, [], ◌∷◌, ◌++◌, sym, subst, arith}
use Rattle.trail_solver.specs.Candidates.{CandidatesValue, IsSetOf}
use Rattle.step_texts.specs.declared.told.KnownSquare.{KnownSquare}
use Rattle.step_texts.specs.Told.{IsKnown, AreKnown}

-- each square is before this one
abbrev pub AreBefore : ℕ → List KnownSquare → Type 0
AreBefore to [] = Unit {0}
AreBefore to (square ∷ squares) = (square.cell < to) × AreBefore to squares

-- squares before one are before a later one
pub before_later : (from to : ℕ) (squares : List KnownSquare) → from ≤ to → AreBefore from squares → AreBefore to squares
before_later from to [] later are = tt
before_later from to (square ∷ squares) later (here, are) = (omega (arith, here, later), before_later from to squares later are)

-- a square whose numbers are the set of its candidates is known
pub set_known : (c : CandidatesValue) (square : KnownSquare) → square.cell < c.size * c.size
    → IsSetOf c square.cell square.numbers → IsKnown c square
set_known c square inside is = record {
  inside = inside;
  left = λ v. (
    λ has. let pair = (is v).0 has in record { pair = pair.0; may = pair.1 },
    λ left. (is v).1 (left.pair, left.may),
  );
}

-- known squares and then a later one are known squares
pub known_push : (c : CandidatesValue) (from : ℕ) (squares : List KnownSquare) (last : KnownSquare) → AreKnown c from squares
    → AreBefore last.cell squares → from ≤ last.cell → IsKnown c last → AreKnown c from (squares ++ last ∷ [])
known_push c from [] last are before after is = (after, is, tt)
known_push c from (square ∷ squares) last (here, known, more) (earlier, before) after is =
    (here, known, known_push c (square.cell + 1) squares last more before (omega (arith, earlier)) is)

-- squares before one, and then one that is, too, are before it
pub before_push : (to : ℕ) (squares : List KnownSquare) (last : KnownSquare) → AreBefore to squares → last.cell < to
    → AreBefore to (squares ++ last ∷ [])
before_push to [] last are here = (here, tt)
before_push to (square ∷ squares) last (earlier, are) here = (earlier, before_push to squares last are here)

-- known squares before one are, with it, known squares before the next one
pub known_more : (c : CandidatesValue) (squares next : List KnownSquare) (last : KnownSquare) → next ≡ squares ++ last ∷ []
    → AreKnown c 0 squares × AreBefore last.cell squares → IsKnown c last → AreKnown c 0 next × AreBefore (last.cell + 1) next
known_more c squares next last grown (are, before) is =
    let later = before_later last.cell (last.cell + 1) squares (omega arith) before in
    subst (λ (xs : List KnownSquare). AreKnown c 0 xs × AreBefore (last.cell + 1) xs) (sym grown)
    (known_push c 0 squares last are before (omega arith) is, before_push (last.cell + 1) squares last later (omega arith))

-- known squares before one are known squares before the next one
pub known_still : (c : CandidatesValue) (squares next : List KnownSquare) (cell : ℕ) → next ≡ squares
    → AreKnown c 0 squares × AreBefore cell squares → AreKnown c 0 next × AreBefore (cell + 1) next
known_still c squares next cell same (are, before) =
    subst (λ (xs : List KnownSquare). AreKnown c 0 xs × AreBefore (cell + 1) xs) (sym same)
    (are, before_later cell (cell + 1) squares (omega arith) before)
