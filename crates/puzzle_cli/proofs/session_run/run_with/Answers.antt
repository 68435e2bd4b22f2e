use Rattle.std.proofs.Common.{Option, sym, subst}
use Rattle.play_midend.specs.Histories.{History}
use Rattle.needed_items.proofs.ItemLaws.{laws_of}
use Rattle.line_replies.specs.Commands.{is_quit}
use Rattle.line_replies.specs.GameFacts.{facts_of}
use Rattle.puzzle_cli.specs.Runs.{point_at}
use Rattle.line_replies.specs.RunLaws.{IsNoneOrStorable}
use Rattle.puzzle_cli.proofs.StorableRuns.{ends_storable}
use Rattle.puzzle_cli.proofs.session_run.run_with.Goals as goal

pub returns-clause-storable : goal.returns-clause-storable
returns-clause-storable g c = λ begins.
    let f = facts_of g.P.Rules g.P.Game g.P.Draw in
    let Stored : Option (History _) → Type 0 = λ session. IsNoneOrStorable f session in
    let old = point_at g.R.Source g.W.Sink c.new-machine.result c.args.source.now c.args.sink.now in
    let new = point_at g.R.Source g.W.Sink c.run_machine-end.new.machine c.run_machine-end.new.source c.run_machine-end.new.sink in
    let stays = ends_storable f (laws_of g.met.P.Rules) g.T.Format.reply g.met.T.Format.leaves_as_answers is_quit
    c.run_machine-end.result old new (subst Stored (sym c.new-machine.ensures) begins) c.run_machine-end.ensures.ends in
    subst Stored (sym c.into_session.ensures) stays
