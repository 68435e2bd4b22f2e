-- Numbers without a square, in candidates of which the same is left.
use Rattle.std.proofs.Common.{◌≡◌, ◌<◌, ◌*◌, ◌≤◌, ℕ, List, Some, sym, ap, ◌∙◌, subst}
use Rattle.latin_board.specs.Lines.{line_cell}
use Rattle.trail_solver.specs.Candidates.{CandidatesValue}
use Rattle.line_steps.specs.Left.{IsLeft, IsFewer, AreAlike}
use Rattle.line_steps.specs.Chains.{left_by}
use Rattle.line_steps.proofs.Chains.{left_size}
use Rattle.line_steps.specs.declared.reason.Reason.TheVariants.{Place}
use Rattle.step_chains.specs.ChainValues.{steps_of}
use Rattle.step_chains.specs.Copies.{IsCopy}
use Rattle.step_chains.specs.declared.chain.Step.{Step}
use Rattle.step_texts.specs.DeadEnds.{HasNoSquare, IsLastPlace}
use Rattle.step_texts.proofs.LooksTold.{left_less}

-- a number that has no square in some candidates has none in others of that size of which no more is left
none_in_fewer : (c d : CandidatesValue) (line value : ℕ) → d.size ≡ c.size → IsFewer c d → HasNoSquare c line value
    → HasNoSquare d line value
none_in_fewer c d line value size fewer h = record {
  line_is = subst (λ w. line < 2 * w) (sym size) h.line_is;
  low = h.low;
  high = subst (λ w. value ≤ w) (sym size) h.high;
  none = λ k inside left.
      let square = ap (λ w. line_cell w line k) size in
      h.none k (subst (λ w. k < w) size inside) (fewer (line_cell c.size line k) value (subst (λ cell. IsLeft d cell value) square left));
}

-- after steps are taken away from a copy, a number has no square there if it has none after them, and only then
pub none_taken : (c d e : CandidatesValue) (steps : List Step) (line value : ℕ) → IsCopy c d → e.size ≡ d.size
    → AreAlike (left_by d (steps_of steps)) e
    → (HasNoSquare e line value → HasNoSquare (left_by c (steps_of steps)) line value)
    × (HasNoSquare (left_by c (steps_of steps)) line value → HasNoSquare e line value)
none_taken c d e steps line value copy size alike =
    let mine = steps_of steps in
    let same : e.size ≡ (left_by c mine).size = size ∙ copy.size ∙ sym (left_size c mine) in (
      none_in_fewer e (left_by c mine) line value (sym same)
          (λ cell v h. alike.1 cell v (left_less d c mine copy.alike.1 cell v h)),
      none_in_fewer (left_by c mine) e line value same
          (λ cell v h. left_less c d mine copy.alike.0 cell v (alike.0 cell v h)),
    )

-- the last step has one number, in one line
pub same_place : (steps : List Step) (line value at number : ℕ) → IsLastPlace steps line value → IsLastPlace steps at number
    → (line ≡ at) × (value ≡ number)
same_place steps line value at number (s, i, here, is) (t, j, there, also) =
    let last : Some s ≡ Some t = sym here ∙ there in
    let steps_are : s ≡ t = cc last in
    let reasons : Place line i value ≡ Place at j number = sym is ∙ ap (λ (x : Step). x.reason) steps_are ∙ also in
    (cc reasons, cc reasons)
