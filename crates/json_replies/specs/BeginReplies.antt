-- The outcome of a line that begins a game: that of `new` with the ID of the game.
use Rattle.std.specs.Prelude.{◌≡◌, ℕ, List, Option, Some, None, Ok, Err}
use Rattle.game_texts.specs.declared.params.Params.{Params}
use Rattle.play_midend.specs.Histories.{History}
use Rattle.line_replies.specs.GameFacts.{GameFacts}
use Rattle.line_replies.specs.Replies.{LineGives}
use Rattle.line_replies.specs.RunLaws.{described_line}
use Rattle.json_replies.specs.declared.begin_line.BeginLine.{BeginLine}
use Rattle.json_replies.specs.declared.begin_line.BeginLine.TheVariants.{Fair, Blank, Item, Thin, ThinBy, Fill}
use Rattle.json_replies.specs.declared.begin_refusal.BeginRefusal.{BeginRefusal}
use Rattle.json_replies.specs.declared.begin_refusal.BeginRefusal.TheVariants.{NoGame}
use Rattle.json_replies.specs.DeskReplies.{IsBlankOf, IsNoBlank, IsChangeOf, IsNoChange, IsThinOf, IsThinBy, IsNoLetter, IsFillOf, IsNoFill, plain_params}
use Rattle.json_replies.specs.FairReplies.{AskForFair, AskFairInVain}
use Rattle.json_replies.specs.FurtherLines.{BoardFacts}
use Rattle.json_replies.specs.Replies.{Answer}

-- a line asks for this puzzle of a setter; one that changes a puzzle asks nothing where there is no session
abbrev pub AskForPuzzle : {P : Type 0} → GameFacts P → BoardFacts P → Option (History P) → BeginLine (List ℕ) → P → Type 0
AskForPuzzle f b old (Fair words) p = ⊥
AskForPuzzle f b old (Blank word) p = IsBlankOf f.rules b.items word p
AskForPuzzle f b (Some h) (Item numbers) p = IsChangeOf f.rules b.items numbers h.puzzle p
AskForPuzzle f b (Some h) Thin p = IsThinOf f.rules h.puzzle p
AskForPuzzle f b (Some h) (ThinBy word first) p = IsThinBy f.rules b.struck_by b.fair_letter word first h.puzzle p
AskForPuzzle f b (Some h) Fill p = IsFillOf f.rules h.puzzle p
AskForPuzzle f b None asked p = ⊥

-- a line asks for a game with these parameters, and this is its puzzle; those of a setter's puzzle have no letter
abbrev pub AskFor : {P : Type 0} → GameFacts P → BoardFacts P → Option (History P) → BeginLine (List ℕ) → Params → P
    → Type 0
AskFor f b old (Fair words) params p = AskForFair f b words params p
AskFor f b old asked params p = (params ≡ plain_params (f.rules.puzzle p).size) × AskForPuzzle f b old asked p

-- a line that begins a game is refused for this reason
abbrev pub AskInVain : {P : Type 0} → GameFacts P → BoardFacts P → Option (History P) → BeginLine (List ℕ)
    → BeginRefusal → Type 0
AskInVain f b old (Fair words) refusal = AskFairInVain f b words refusal
AskInVain f b old (Blank word) refusal = IsNoBlank word refusal
AskInVain f b (Some h) (Item numbers) refusal = IsNoChange b.items (f.rules.puzzle h.puzzle).size numbers refusal
AskInVain f b (Some h) Thin refusal = ⊥
AskInVain f b (Some h) (ThinBy word first) refusal = IsNoLetter b.fair_letter word refusal
AskInVain f b (Some h) Fill refusal = IsNoFill f.rules h.puzzle refusal
AskInVain f b None asked refusal = refusal ≡ NoGame

-- The outcome of such a line over a session or none: a refusal, or that of the line `new` with the written
-- form of the game
abbrev pub BeginGives : {P : Type 0} → GameFacts P → BoardFacts P → Option (History P) → BeginLine (List ℕ) → Answer P
    → Type 0
BeginGives {P} f b old asked (Ok outcome) =
    (params : Params) × (p : P) × AskFor f b old asked params p × LineGives f old (described_line f params p) outcome
BeginGives f b old asked (Err refusal) = AskInVain f b old asked refusal
