use Rattle.std.proofs.Common.{inl, inr, sym, ◌∙◌}
use Rattle.safe_save.specs.Folder.{Touched}
use Rattle.safe_save.specs.Save.{IsAtEither}
use Rattle.safe_save.proofs.Moments.{over_first, over_next, at_ok}
use Rattle.safe_save.proofs.saving.in_place.Goals as goal

-- while the old file is written over, the new one has the bytes, and while that one is taken away, the old one has them
pub returns-clause-any_moment : goal.returns-clause-any_moment
returns-clause-any_moment g c tells =
    let state = g.F.Folder.state in
    let path = c.args.path.now in
    let beside = c.args.beside.now in
    let apart = c.requires.apart in
    let filled = c.requires.filled tells in
    let has_bytes = IsAtEither path beside c.args.bytes.now in
    let fine = sym c.is_err.ensures.value ∙ c.if-is_err.false in
    let written = at_ok c.overwrite.result fine (c.overwrite.ensures.written tells) in
    let durable = at_ok c.overwrite.result fine (c.overwrite.ensures.durable tells) in
    let over_write = over_first (Touched path) has_bytes (state c.args.folder.now) (state c.overwrite.new.self) (λ f left. inr (filled.durable f (g.met.F.Folder.only_now _ f tells left)))
    (λ f (old, left, touched). inr (touched beside apart ∙ filled.durable old left)) (c.overwrite.ensures.time tells) in
    over_next (Touched beside) has_bytes _ _ (state c.remove.new.self) over_write (λ f (old, left, touched). inl (touched path (λ same. apart (sym same)) ∙ durable old left ∙ written))
    (c.remove.ensures.time tells)
