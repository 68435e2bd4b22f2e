use Rattle.std.proofs.Common.{◌≡◌, ℕ, ◌*◌, ◌<◌, ◌-◌, sym, ap, ◌∙◌, subst, arith}
use Rattle.towers_game.specs.TowersReasons.{IsTowersStruckBy}
use Rattle.line_steps.specs.Views.{view_cell}
use Rattle.line_steps.proofs.Leads.{leads_on, leads_size}
use Rattle.towers_game.proofs.LowTowers.{low_leads}
use Rattle.line_steps.specs.declared.grade.Grade.TheVariants.{Easy}
use Rattle.towers_game.proofs.towers.Towers.keep_low_from.Goals as goal

pub strike-requires : goal.strike-requires
strike-requires c =
    let same = leads_size (IsTowersStruckBy c.args.self.now) Easy c.args.candidates.now c.loop-k.candidates c.loop-k.invariant in
    subst (λ (w : ℕ). c.cell.result < w * w) (c.from-view.ensures.size ∙ c.size-size.ensures.value ∙ sym same) c.cell.ensures.inside

pub loop-k-preserved : goal.loop-k-preserved
loop-k-preserved c =
    let v = c.args.self.now in
    let old = c.args.candidates.now in
    let now = c.loop-k.candidates in
    let next = c.strike.new.candidates in
    let k = c.loop-k.k in
    let same : now.size ≡ old.size = leads_size (IsTowersStruckBy v) Easy old now c.loop-k.invariant in
    let size = c.size-size.ensures.value in
    let there : c.cell.result ≡ view_cell old.size c.args.place (k - 1) =
    rw (c.from.ensures, c.from-view.ensures.size ∙ size, c.from-view.ensures.place) at c.cell.ensures.value in
    let here : c.cell.result ≡ view_cell now.size c.args.place (k - 1) = there ∙ ap (λ (w : ℕ). view_cell w c.args.place (k - 1)) (sym same) in
    leads_on (IsTowersStruckBy v) Easy old now next c.loop-k.invariant
    (low_leads v c.args.place c.clue-clue.result k c.greatest_at.result c.up_to-all.result c.up_to-low.result c.difference.result c.cell.result now next
    (same ∙ c.requires.size) (omega (arith, same, c.requires.place)) c.clue-clue.ensures.value c.loop-k.auto.k c.loop-k-test.true
    (omega (arith, same, c.clue-clue.ensures.within, c.requires.size)) (omega (arith, same, size, c.greatest_at.ensures)) here c.up_to-low.ensures.members
    c.difference.ensures c.strike.ensures)
