use Rattle.line_steps.specs.Laws.Less.{all_less}
use Rattle.line_steps.specs.Reasons.{StruckBy}
use Rattle.std.proofs.Common.{sym, ◌∙◌}
use Rattle.line_steps.proofs.ReasonsAlong.{reason_leads, reason_quiet}
use Rattle.line_steps.proofs.steps.clue_passes.strike_by_reason.Goals as goal

pub returns : goal.returns
returns g c =
    let Struck = StruckBy g.P.Rules.puzzle g.P.Steps.own c.args.p.now in
    let less = all_less (g.P.Rules.puzzle c.args.p.now) (g.P.Steps.own c.args.p.now) (g.met.P.Steps.own_less c.args.p.now) in
    let a = c.args.candidates.now in
    let b = c.strike_row.new.candidates in
    let row = c.reason_row-row.result in
    record {
      leads = reason_leads Struck less c.args.grade c.args.reason.now c.args.line row a b (sym c.has.ensures ∙ c.if-not-has.false) c.reason_row-row.ensures
          c.strike_row.ensures.takes;
      changed = c.strike_row.ensures.changed;
      quiet = λ none has. reason_quiet Struck c.args.reason.now c.args.line row a b (c.strike_row.ensures.changed.same none) c.reason_row-row.ensures
          c.strike_row.ensures.takes;
    }
