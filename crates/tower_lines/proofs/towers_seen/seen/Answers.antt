use Rattle.std.proofs.Common.{◌≡◌, ◌+◌, ◌<◌, ◌≤◌, [], ◌∷◌, ◌++◌, get_or, take, sym, ap, ◌∙◌, arith}
use Rattle.std.proofs.lemmas.List.{take_more}
use Rattle.tower_lines.proofs.SeenLemmas.{least_seen_more, least_seen_same, seen-more_seen, seen-more_hidden}
use Rattle.tower_lines.proofs.towers_seen.seen.Goals as goal
use Rattle.tower_lines.proofs.towers_seen.seen.Goals.{then-height-least_seen, else-height-least_seen}

pub loop-height-preserved : goal.loop-height-preserved
loop-height-preserved c =
    let i = c.loop-height.height-index in
    let line = c.args.line.now in
    let before = take i line in
    let height = get_or line i 0 in
    let read : c.from-height.result ≡ height = cc in
    let more : take (i + 1) line ≡ before ++ height ∷ [] = take_more line i 0 (omega arith) in
    let old = c.loop-height.invariant in
    rw more (elim c.if-height-least_seen.branch [
      | then-height-least_seen w ↦
          (let tall : c.loop-height.least_seen ≤ height = omega arith in
          let least = least_seen_more before c.loop-height.least_seen height old.least tall in
          record {
            counted = w.count-is ∙ ap (λ n. n + 1) old.counted ∙ sym (seen-more_seen before c.loop-height.least_seen height old.least tall);
            few = omega arith;
            low = omega arith;
            least = rw (w.least_seen-is, read) least;
          })
      | else-height-least_seen w ↦
          (let hidden : height < c.loop-height.least_seen = omega arith in
          let least = least_seen_same before c.loop-height.least_seen height old.least hidden in
          record {
            counted = w.count-is ∙ old.counted ∙ sym (seen-more_hidden before c.loop-height.least_seen height old.least hidden);
            few = omega arith;
            low = omega arith;
            least = rw w.least_seen-is least;
          })
    ])
