use Rattle.std.proofs.Common.{arith}
use Rattle.towers_game.specs.TowersReasons.{IsTowersStruckBy}
use Rattle.line_steps.proofs.Chains.{higher_has}
use Rattle.line_steps.proofs.Leads.{leads_wider}
use Rattle.line_steps.specs.declared.grade.Grade.TheVariants.{Easy, Hard}
use Rattle.towers_game.proofs.towers.lines.TowersLinePass.strike_first.Goals as goal

pub returns : goal.returns
returns c =
    let Struck = IsTowersStruckBy c.args.self.now in
    leads_wider Struck Struck Easy Hard (λ d reason cell value h. h) (higher_has Easy Hard (omega arith)) c.args.candidates.now c.keep_low_towers.new.candidates
    c.keep_low_towers.ensures
