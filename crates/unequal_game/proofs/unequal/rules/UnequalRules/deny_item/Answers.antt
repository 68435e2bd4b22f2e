use Rattle.std.proofs.Common.{◌≡◌, ℕ, ◌∙◌, ap, subst}
use Rattle.trail_solver.specs.Solutions.{Denies}
use Rattle.unequal_game.specs.Inner.UnequalItems.{with_item}
use Rattle.unequal_game.specs.Unequal.{UnequalValue, item_at, unequal_puzzle}
use Rattle.unequal_game.proofs.UnequalTables.{without_cut}
use Rattle.unequal_game.proofs.unequal.rules.UnequalRules.deny_item.Goals as goal

pub returns-clause-denies : goal.returns-clause-denies
returns-clause-denies c =
    let v : UnequalValue = c.args.self.now in
    let item : c.item_at.result ≡ item_at v.size c.args.i =
    c.item_at.ensures.value ∙ ap (λ (w : ℕ). item_at w c.args.i) c.size.ensures.value in
    let P : UnequalValue → Type 0 = λ u. Denies (unequal_puzzle v) (unequal_puzzle u) (unequal_puzzle c.deny.new.self) c.args.candidates.now c.deny.new.candidates in
    subst P (ap (λ it. with_item v it 0) item ∙ without_cut v c.args.i c.deny.ensures.valid) c.deny.ensures.denies
