use Rattle.std.proofs.Common.{◌∙◌, arith}
use Rattle.towers_game.specs.TowersReasons.{IsTowersStruckBy}
use Rattle.line_steps.proofs.Leads.{leads_on, leads_size}
use Rattle.line_steps.specs.declared.grade.Grade.TheVariants.{Easy}
use Rattle.towers_game.proofs.towers.Towers.keep_low_towers.Goals as goal

pub keep_low_from-requires : goal.keep_low_from-requires
keep_low_from-requires c =
    let same = leads_size (IsTowersStruckBy c.args.self.now) Easy c.args.candidates.now c.loop-place.candidates c.loop-place.invariant in
    record {
      size = same ∙ c.requires;
      place = omega (arith, same, c.loop-place-test.true, c.get-width.ensures.value, c.size.ensures.value);
    }

pub loop-place-preserved : goal.loop-place-preserved
loop-place-preserved c =
    leads_on (IsTowersStruckBy c.args.self.now) Easy c.args.candidates.now c.loop-place.candidates c.keep_low_from.new.candidates
    c.loop-place.invariant c.keep_low_from.ensures
