use Rattle.line_steps.specs.Laws.Less.{all_less}
use Rattle.std.proofs.Common.{◌≡◌, ℕ, nat_le, ◌&&◌, ◌∙◌, subst}
use Rattle.number_sets.specs.Sets.{has_number}
use Rattle.line_steps.proofs.GivenPasses.{given_taken}
use Rattle.line_steps.proofs.lines.settling.strike_given.Goals as goal

pub returns : goal.returns
returns g c =
    let Members : ℕ → Type 0 = λ n. (j : ℕ) → has_number c.up_to.result j ≡ (nat_le 1 j && nat_le j n) in
    let taken = given_taken (g.P.LinePass.puzzle c.args.p.now) (g.P.LinePass.own c.args.p.now) (all_less (g.P.LinePass.puzzle c.args.p.now) (g.P.LinePass.own c.args.p.now) (g.met.P.LinePass.own_less c.args.p.now))
    c.args.cell c.up_to.result c.one.result c.difference-values.result c.given_at-given.result
    c.args.candidates.now c.strike.new.candidates c.requires.inside c.given_at-given.ensures.value c.if-given-eq0.false
    (subst Members (c.get.ensures.value ∙ c.size-size.ensures.value) c.up_to.ensures.members) c.one.ensures.members c.difference-values.ensures
    c.strike.ensures in
    record { leads = taken.leads; quiet = taken.quiet }
