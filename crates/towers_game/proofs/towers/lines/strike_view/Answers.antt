use Rattle.std.proofs.Common.{◌≡◌, ℕ, ◌∙◌, rules, subst}
use Rattle.towers_game.specs.Fillings.{IsUnfilled}
use Rattle.towers_game.specs.Rows.{May}
use Rattle.towers_game.specs.Inner.RowSets.{IsAlong}
use Rattle.line_steps.proofs.Takes.{takes_still}
use Rattle.towers_game.proofs.ViewPasses.{view_taken, view_leads, view_calm}
use Rattle.towers_game.proofs.towers.lines.strike_view.Goals as goal

pub returns-in-Some : goal.returns-in-Some
returns-in-Some g c =
    let v = c.args.p.now in
    let a = c.args.candidates.now in
    let b = c.strike_row.new.candidates in
    let row = c.in-Some.row in
    let along = c.along_line.result in
    let width : c.get-width.result ≡ a.size = c.get-width.ensures.value ∙ c.size.ensures.value in
    let is : IsAlong a.size c.args.place row a.size along = subst (λ (w : ℕ). IsAlong w c.args.place row w along) width c.along_line.ensures in
    let taken = view_taken (May c.args.look a) c.args.line c.args.place c.clue-clue.result row along a b c.requires.line c.in-Some.ensures is
    c.strike_row.ensures.takes in
    record {
      leads = view_leads v c.args.look c.args.place c.clue-clue.result a b c.requires.size c.requires.place c.clue-clue.ensures.value c.if-clue-eq0.false
          taken;
      loses = search rules;
      quiet = λ stays.
          view_calm v c.args.look c.args.line c.args.place c.clue-clue.result a b c.requires.size c.requires.place c.requires.line
          c.clue-clue.ensures.value taken stays;
    }

pub returns-in-None : goal.returns-in-None
returns-in-None g c =
    let v = c.args.p.now in
    let a = c.args.candidates.now in
    let clue = c.clue-clue.result in
    let still = takes_still (λ cell x. IsUnfilled a.size (May c.args.look a) c.args.place clue cell x) a c.in-None.ensures in
    record {
      leads = view_leads v c.args.look c.args.place clue a a c.requires.size c.requires.place c.clue-clue.ensures.value c.if-clue-eq0.false still;
      loses = search rules;
      quiet = λ stays.
          view_calm v c.args.look c.args.line c.args.place clue a a c.requires.size c.requires.place c.requires.line c.clue-clue.ensures.value still stays;
    }
