use Rattle.std.proofs.Common.{not, sym, subst, ◌==◌}
use Rattle.trail_solver.specs.Solutions.{Denies}
use Rattle.towers_game.specs.Towers.{TowersValue, cut_towers, towers_puzzle}
use Rattle.towers_game.proofs.TowersDenied.{towers_denied}
use Rattle.towers_game.proofs.towers.rules.TowersRules.deny_item.Goals as goal

pub returns-clause-denies : goal.returns-clause-denies
returns-clause-denies c =
    let v : TowersValue = c.args.self.now in
    let cut : TowersValue = cut_towers v (λ j. not (j == c.args.i)) in
    let P : TowersValue → Type 0 = λ u. Denies (towers_puzzle v) (towers_puzzle cut) (towers_puzzle u) c.args.candidates.now c.deny_number.new.candidates in
    subst P (sym c.drop_item.ensures) (towers_denied v c.args.i c.args.candidates.now c.deny_number.new.candidates c.size-size.ensures.valid c.deny_number.ensures.keeps)
