-- Candidates taken once more.
use Rattle.std.proofs.Common.{◌≡◌, ℕ, ◌*◌, ◌<◌, nat_le, ◌&&◌, not, ◌∙◌, arith}
use Rattle.std.proofs.lemmas.Bool.{both_ways, and_parts, and_from, cases_Bool, not_from_false, false_from_ne_true, le-leb}
use Rattle.number_sets.specs.Sets.{has_number}
use Rattle.latin_board.specs.Squares.{GridValue}
use Rattle.trail_solver.specs.Candidates.{CandidatesValue, IsSetOf}
use Rattle.line_steps.specs.Left.{all_of}
use Rattle.line_steps.specs.Takes.{Takes}
use Rattle.step_chains.specs.Copies.{IsCopy}
use Rattle.step_chains.specs.Inner.Views.{IsGone, IsGoneSet, IsSeen, seen}

-- all numbers of the size but those that are left of a square
pub gone_set : (c : CandidatesValue) (cell all left result : ℕ) → ((k : ℕ) → has_number all k ≡ (nat_le 1 k && nat_le k c.size))
    → IsSetOf c cell left
    → ((n : ℕ) → has_number result n ≡ (has_number all n && not (has_number left n))) → IsGoneSet c cell result
gone_set c cell all left result members of rest = λ v pair. grind (arith, and_parts, false_from_ne_true, both_ways, and_from, nat_le, le-leb, not_from_false)

-- once all that isn't left of the start is gone, what is left is the same
pub copied : (start c : CandidatesValue) (w : ℕ) → w ≡ start.size * start.size
    → Takes (λ cell v. (j : ℕ) × (j < w) × (cell ≡ j) × IsGone start j v) (all_of start.size) c → IsCopy start c
copied start c w w_is t = grind (arith, cases_Bool, both_ways, not_from_false, false_from_ne_true)

-- a copy of what is in view of a grid is in view of it, too
pub seen_again : (g : GridValue) (start c : CandidatesValue) → start.size ≡ g.size → IsCopy start c → IsSeen (seen g start) c
seen_again g start c size copy = record { size = copy.size ∙ size; among = copy.alike.0; all = copy.alike.1 }
