use Rattle.std.proofs.Common.{◌≡◌, ap, arith}
use Rattle.shown_counts.proofs.ShownRows.{told_shown}
use Rattle.shown_counts.proofs.clue_counts.ClueCounts.shows.Goals as goal

pub returns-in-Some : goal.returns-in-Some
returns-in-Some c = λ candidates reason row.
    let same : c.self.inside.size ≡ c.args.self.now.size = ap (λ k. k.size) c.self.view_is in
    told_shown candidates reason c.args.self.now c.args.cell c.in-Some.index c.args.values c.shows_at.result
    (omega (arith, same, c.get-size.ensures.value, c.get-size.ensures.largest)) row c.in-Some.ensures.0 c.in-Some.ensures.1 c.shows_at.ensures
