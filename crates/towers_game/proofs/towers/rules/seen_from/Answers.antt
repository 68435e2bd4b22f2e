use Rattle.std.proofs.Common.{◌≡◌, ◌∙◌, ap, sym, take, arith}
use Rattle.latin_board.specs.Squares.{number_at}
use Rattle.tower_lines.specs.TowersSeen.{seen}
use Rattle.towers_game.specs.Laws.ViewLines.{numbers_from, line_from-numbers}
use Rattle.line_steps.proofs.FilledLemmas.{filled_more}
use Rattle.towers_game.proofs.towers.rules.seen_from.Goals as goal

pub loop-k-preserved : goal.loop-k-preserved
loop-k-preserved c =
    let g = c.args.grid.now in
    let width = c.from-view.ensures.size ∙ c.size-size.ensures.value in
    let here = rw (width, c.from-view.ensures.place) at c.cell.ensures.value in
    let at : c.get.result ≡ number_at g c.cell.result = c.get.ensures.value in
    filled_more _ _ _ c.loop-k.k c.loop-k.line c.get.result (omega arith) (at ∙ ap (number_at g) here) c.loop-k.invariant

pub returns-clause-value : goal.returns-clause-value
returns-clause-value c =
    let g = c.args.grid.now in
    let all : c.get-width.result ≡ c.loop-k.k = omega arith in
    let whole : c.loop-k.k ≡ g.size = omega arith in
    let front : take c.get-width.result c.loop-k.line ≡ numbers_from g c.args.place g.size =
    ap (λ n. take n c.loop-k.line) all ∙ c.loop-k.invariant.front ∙ ap (numbers_from g c.args.place) whole in
    c.seen.ensures.shown ∙ ap seen (front ∙ sym (line_from-numbers g c.args.place c.requires))
