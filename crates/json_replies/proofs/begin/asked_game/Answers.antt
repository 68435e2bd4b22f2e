use Rattle.line_steps.specs.Reasons.{StruckBy}
use Rattle.std.proofs.Common.{◌≡◌, ℕ, List, Option, Some, None, sym, ap, subst}
use Rattle.std.specs.Option.{IsSomeAnd}
use Rattle.game_texts.specs.declared.params.Params.{Params}
use Rattle.play_midend.specs.Histories.{History}
use Rattle.line_replies.specs.GameFacts.{GameFacts, facts_of}
use Rattle.json_replies.specs.declared.begin_line.BeginLine.{BeginLine}
use Rattle.json_replies.specs.declared.begin_line.BeginLine.TheVariants.{ThinBy}
use Rattle.json_replies.specs.declared.begin_line.FirstTried.{FirstTried}
use Rattle.json_replies.specs.BeginLines.{begin_copied}
use Rattle.json_replies.specs.BeginReplies.{AskFor}
use Rattle.json_replies.specs.DeskReplies.{IsThinBy, plain_params}
use Rattle.json_replies.specs.FurtherLines.{BoardFacts}
use Rattle.json_replies.proofs.begin.asked_game.Goals as goal

-- the session's puzzle, thinned by a grade, is one that `thin` and its letter ask for
thin_by_asked : {P : Type 0} (f : GameFacts P) (b : BoardFacts P) (old : Option (History P)) (asked : BeginLine (List ℕ)) (puzzle left p : P)
    (word : List ℕ) (first : FirstTried) (params : Params) → asked ≡ ThinBy word first → IsSomeAnd old (λ h. puzzle ≡ h.puzzle)
    → params ≡ plain_params (f.rules.puzzle left).size → p ≡ left → IsThinBy f.rules b.struck_by b.fair_letter word first puzzle left
    → AskFor f b old asked params p
thin_by_asked f b None asked puzzle left p word first params is some plain same thin = absurd some
thin_by_asked {P} f b (Some h) asked puzzle left p word first params is some plain same thin =
    let whole : AskFor f b (Some h) (ThinBy word first) params left =
    (plain, subst (λ (q : P). IsThinBy f.rules b.struck_by b.fair_letter word first q left) some thin) in
    subst (λ (q : P). AskFor f b (Some h) asked params q) (sym same)
    (subst (λ (a : BeginLine (List ℕ)). AskFor f b (Some h) a params left) (sym is) whole)

pub returns-in_ok-thin_puzzle_by-in-ThinBy-clause-asked : goal.returns-in_ok-thin_puzzle_by-in-ThinBy-clause-asked
returns-in_ok-thin_puzzle_by-in-ThinBy-clause-asked g c =
    let f = facts_of g.P.Rules g.P.Game g.P.Draw in
    let b : BoardFacts g.row.P.Denot = record {
      demand = g.P.Demands.demand;
      clues = g.P.Shows.clues;
      signs = g.P.Shows.signs;
      struck_by = (StruckBy g.P.Rules.puzzle g.P.Steps.own);
      letter = g.P.StepNames.grade_letter;
      edge_clue = g.P.StepNames.edge_clue_of;
      says_greater = g.P.StepNames.says_greater_of;
      fair_letter = g.P.FairGame.letter_of;
      trial = g.P.FairGame.trial_of;
      initial = g.P.FairGame.initial_code;
      items = g.P.Items;
    } in
    thin_by_asked f b c.args.session.now (begin_copied c.args.asked) c.in_ok-puzzle_of-in-ThinBy.field-0.now
    c.in_ok-thin_puzzle_by-in-ThinBy.field-0 c.plain-in-ThinBy.result.1 c.in-ThinBy.word.now c.in-ThinBy.first c.plain-in-ThinBy.result.0
    (ap begin_copied c.in-ThinBy.is) c.in_ok-puzzle_of-in-ThinBy.ensures.ok c.plain-in-ThinBy.ensures.params c.plain-in-ThinBy.ensures.puzzle
    c.in_ok-thin_puzzle_by-in-ThinBy.ensures.asked
