use Rattle.std.proofs.Common.{refl}
use Rattle.std.proofs.lemmas.Bool.{both_ways}
use Rattle.board_checks.specs.declared.spot.Spot.TheVariants.{Edge, RightOf, Below}
use Rattle.board_checks.specs.Errors.{ErrorsValue}
use Rattle.board_checks.proofs.Tables.{left_below}
use Rattle.board_checks.proofs.board_errors.BoardErrors.any_broken.Goals as goal

pub returns-then-has_any : goal.returns-then-has_any
returns-then-has_any c =
    let there = c.has_any.ensures.0 c.if-has_any.true in
    rw (← c.self.view_is) (λ e. (Edge there.0, there.1), λ h. refl)

pub returns-then-has_any-2 : goal.returns-then-has_any-2
returns-then-has_any-2 c =
    let there = c.has_any-2.ensures.0 c.if-has_any-2.true in
    rw (← c.self.view_is) (λ e. (RightOf there.0, there.1), λ h. refl)

pub returns : goal.returns
returns c =
    let inside = c.self.inside in
    let errors : ErrorsValue = record { repeated = inside.repeated; edges = inside.edges; right = inside.right; below = inside.below } in
    rw (← c.self.view_is) (
      λ e. let there = c.has_any-3.ensures.0 e in (Below there.0, there.1),
      λ h. c.has_any-3.ensures.1 (left_below errors
          (λ k. both_ways c.has_any.result c.if-has_any.false (c.has_any.ensures.1 k))
          (λ k. both_ways c.has_any-2.result c.if-has_any-2.false (c.has_any-2.ensures.1 k))
          h.0 h.1),
    )
