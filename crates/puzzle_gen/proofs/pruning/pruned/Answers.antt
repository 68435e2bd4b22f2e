use Rattle.std.proofs.Common.{sym, subst}
use Rattle.needed_items.specs.Needed.{HasOnly}
use Rattle.needed_items.specs.InTurn.{HasSeveral, IsLeftInTurn}
use Rattle.needed_items.proofs.ItemLaws.{laws_of}
use Rattle.puzzle_gen.proofs.OnePruned.{full_only, one_pruned}
use Rattle.puzzle_gen.proofs.pruning.pruned.Goals as goal

pub left_in_turn-requires-clause-passes : goal.left_in_turn-requires-clause-passes
left_in_turn-requires-clause-passes g c =
    subst (HasOnly g.P.Rules c.args.grid.now) (sym c.full.ensures)
    (full_only g.P.Rules c.args.grid.now (laws_of g.met.P.Rules) c.size-size.ensures.valid c.requires.latin)

pub returns : goal.returns
returns g c =
    let f = g.P.Rules in
    one_pruned f c.args.grid.now c.args.order.now c.left_in_turn.result (laws_of g.met.P.Rules) (record {
      is_grid = c.size-size.ensures.valid;
      is_latin = c.requires.latin;
      is_order = c.requires.order;
      in_turn = subst (λ p. IsLeftInTurn f (HasSeveral f) c.args.order.now p c.left_in_turn.result) c.full.ensures
          c.left_in_turn.ensures.in_turn;
    })
