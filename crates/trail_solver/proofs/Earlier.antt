-- Candidates from which pairs go one after another, and what an earlier state says of a later one.
use Rattle.std.proofs.lemmas.Bool.Decides.{nat_tests}
use Rattle.std.proofs.Common.{◌≡◌, ℕ, ◌*◌, ◌<◌, ◌≤◌, true, false, List, [], ◌∷◌, ◌++◌, length, drop, refl, sym, ap, ◌∙◌, subst, take-append-drop, take_all, take_at, arith}
use Rattle.std.proofs.lemmas.Bool.{true_from_ne_false, both_ways, not-false, not_from_true, or_left, cond_both}
use Rattle.std.proofs.lemmas.List.Folds.{list_any-append}
use Rattle.std.proofs.lemmas.List.{length-take, take-take}
use Rattle.latin_board.specs.Squares.{GridValue, number_at}
use Rattle.trail_solver.specs.Pairs.{IsPrefix, has_pair, with_pair}
use Rattle.trail_solver.specs.Candidates.{CandidatesValue, IsEarlier, IsWithin, may_be}

-- ---- one list in front of another

pub prefix_refl : (ps : List (ℕ × ℕ)) → IsPrefix ps ps
prefix_refl ps = record { is = take_all (length ps) ps (omega arith) }

-- a list is the beginning of itself with more after
pub prefix-append : (ps qs : List (ℕ × ℕ)) → IsPrefix ps (ps ++ qs)
prefix-append ps qs = record { is = take_at ps qs (length ps) refl }

-- a beginning is no longer than the whole
pub prefix_length : (ps qs : List (ℕ × ℕ)) → IsPrefix ps qs → length ps ≤ length qs
prefix_length ps qs h = omega (arith, length-take (length ps) qs, ap length h.is)

pub prefix_trans : (ps qs rs : List (ℕ × ℕ)) → IsPrefix ps qs → IsPrefix qs rs → IsPrefix ps rs
prefix_trans ps qs rs h k = grind (arith, nat_tests, take-take, prefix_length)

-- the pairs of a front are in the whole list
pub has_pair-prefix : (ps qs : List (ℕ × ℕ)) (cell value : ℕ) → IsPrefix ps qs → has_pair ps cell value ≡ true
    → has_pair qs cell value ≡ true
has_pair-prefix ps qs cell value h k =
    let whole : ps ++ drop (length ps) qs ≡ qs = ap (λ (xs : List (ℕ × ℕ)). xs ++ drop (length ps) qs) (sym h.is) ∙ take-append-drop (length ps) qs in
    ap (λ (xs : List (ℕ × ℕ)). has_pair xs cell value) (sym whole)
    ∙ list_any-append _ ps (drop (length ps) qs)
    ∙ or_left (has_pair ps cell value) (has_pair (drop (length ps) qs) cell value) k

pub prefix_with_pair : (ps : List (ℕ × ℕ)) (cell value : ℕ) → IsPrefix ps (with_pair ps cell value)
prefix_with_pair ps cell value =
    cond_both (has_pair ps cell value) ps (ps ++ (cell, value) ∷ []) (λ qs. IsPrefix ps qs) (λ _. prefix_refl ps) (λ _. prefix-append ps ((cell, value) ∷ []))

-- ---- earlier and later candidates

-- candidates count as earlier than themselves
pub earlier_refl : (c : CandidatesValue) → IsEarlier c c
earlier_refl c = record { size = refl; adds = prefix_refl c.trail }

-- of three states, each earlier than the next, the first is earlier than the last
pub earlier_trans : (a b c : CandidatesValue) → IsEarlier a b → IsEarlier b c → IsEarlier a c
earlier_trans a b c h k = record { size = k.size ∙ h.size; adds = prefix_trans a.trail b.trail c.trail h.adds k.adds }

-- a pair that is gone stays gone
pub stays_gone : (a b : CandidatesValue) (cell value : ℕ) → IsEarlier a b → may_be a cell value ≡ false → may_be b cell value ≡ false
stays_gone a b cell value h k =
    not_from_true (has_pair b.trail cell value) (has_pair-prefix a.trail b.trail cell value h.adds (not-false (has_pair a.trail cell value) k))

-- a pair that is left was left before
pub was_left : (a b : CandidatesValue) (cell value : ℕ) → IsEarlier a b → may_be b cell value ≡ true → may_be a cell value ≡ true
was_left a b cell value h k =
    true_from_ne_false (may_be a cell value) (λ e. both_ways (may_be b cell value) (stays_gone a b cell value h e) k)

-- a grid within later candidates is within earlier ones
pub within_earlier : (a b : CandidatesValue) (g : GridValue) → IsEarlier a b → IsWithin b g → IsWithin a g
within_earlier a b g h w = record { each = λ cell inside. was_left a b cell (number_at g cell) h (w.each cell (subst (λ (n : ℕ). cell < n * n) (sym h.size) inside)) }
