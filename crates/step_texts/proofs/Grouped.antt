-- Told steps in groups, one group more at a time.
use Rattle.std.proofs.Common.{◌≡◌, ◌<◌, ◌≤◌, ◌+◌, ℕ, List, [], ◌∷◌, ◌++◌, drop, length, sum, All, sym, ap, ◌∙◌, subst, arith}
use Rattle.std.proofs.lemmas.List.{length-drop}
use Rattle.std.proofs.lemmas.List.Elements.{All-push}
use Rattle.std.proofs.lemmas.List.Sums.{sum_by_push}
use Rattle.step_texts.specs.Groups.{AreGroups}
use Rattle.step_texts.specs.declared.told.ToldStep.{ToldStep}

-- the groups are of all told steps but the rest
pub record AreSoFar (told rest : List ToldStep) (groups : List ℕ) : Type 0 where
  pub some : All (λ group. 1 ≤ group) groups
  pub whole : sum groups + length rest ≡ length told

-- once a group is told, fewer told steps are left
pub shorter : (rest behind : List ToldStep) (steps : ℕ) → 1 ≤ steps → steps ≤ length rest → behind ≡ drop steps rest → length behind < length rest
shorter rest behind steps some within is =
    let cut = ap length is ∙ length-drop steps rest in
    omega (arith, cut, some, within)

-- with one group more, the groups are of all told steps but those left behind it
pub one_group : (told rest behind : List ToldStep) (groups next : List ℕ) (steps : ℕ) → 1 ≤ steps → steps ≤ length rest → next ≡ groups ++ steps ∷ []
    → behind ≡ drop steps rest → AreSoFar told rest groups → AreSoFar told behind next
one_group told rest behind groups next steps some within grown is so_far =
    let cut = ap length is ∙ length-drop steps rest in
    let more : sum next ≡ sum groups + steps = ap sum grown ∙ sum_by_push (λ n. n) groups steps in
    let whole = so_far.whole in
    record {
      some = subst (λ (ns : List ℕ). All (λ n. 1 ≤ n) ns) (sym grown) (All-push (λ n. 1 ≤ n) groups steps so_far.some some);
      whole = omega (arith, cut, more, whole, within);
    }

-- once no told step is left, the groups are of all
pub all_grouped : (told rest : List ToldStep) (groups : List ℕ) → length rest ≡ 0 → AreSoFar told rest groups → AreGroups (length told) groups
all_grouped told rest groups none so_far =
    let whole = so_far.whole in
    record { some = so_far.some; whole = omega (arith, none, whole) }
