-- The fair game that the words of a line `fair` ask for.
use Rattle.std.specs.Prelude.{◌≡◌, ◌<◌, ℕ, List, Ok, Err}
use Rattle.latin_board.specs.Squares.{GridValue}
use Rattle.game_texts.specs.declared.params.Params.{Params}
use Rattle.fair_games.specs.Squares.{fair_stream}
use Rattle.fair_games.specs.Draws.{draw_at}
use Rattle.fair_games.specs.Offers.{letter_code}
use Rattle.fair_games.specs.Fair.{IsFair, IsPassedOver, most_draws}
use Rattle.line_replies.specs.GameFacts.{GameFacts}
use Rattle.json_replies.specs.declared.fair_words.FairWords.{FairWords}
use Rattle.json_replies.specs.declared.fair_request.FairRequest.{FairRequest}
use Rattle.json_replies.specs.declared.begin_refusal.BeginRefusal.{BeginRefusal}
use Rattle.json_replies.specs.declared.begin_refusal.BeginRefusal.TheVariants.{NoneFound}
use Rattle.json_replies.specs.FairLines.{IsAsked}
use Rattle.json_replies.specs.FurtherLines.{BoardFacts}

-- the parameters of a request: its size, and the letter of its grade
abbrev pub fair_params : {P : Type 0} → BoardFacts P → FairRequest → Params
fair_params b r = record { size = r.size; letter = b.fair_letter r.grade }

-- the draws of a request
abbrev pub fair_draws : {P : Type 0} → GameFacts P → BoardFacts P → FairRequest → ℕ → GridValue × List ℕ
fair_draws f b r =
    draw_at (b.trial r.grade) r.size (f.rules.items_of r.size)
    (fair_stream r.size (letter_code (b.fair_letter r.grade)) b.initial r.seed)

-- the fair game of a request: of the first of its draws that gives one of the grade
abbrev pub IsGameOfRequest : {P : Type 0} → GameFacts P → BoardFacts P → FairRequest → P → Type 0
IsGameOfRequest f b r p = IsFair f.rules b.struck_by r.grade (fair_draws f b r) p

-- none of the draws of a request gives a game of its grade
abbrev pub HasNoFairGame : {P : Type 0} → GameFacts P → BoardFacts P → FairRequest → Type 0
HasNoFairGame f b r = (n : ℕ) → n < most_draws → IsPassedOver f.rules b.struck_by r.grade (fair_draws f b r n)

-- the words ask for a game with these parameters, and this is its puzzle
abbrev pub AskForFair : {P : Type 0} → GameFacts P → BoardFacts P → FairWords (List ℕ) → Params → P → Type 0
AskForFair f b words params p =
    (r : FairRequest) × IsAsked b.fair_letter words (Ok r) × (params ≡ fair_params b r) × IsGameOfRequest f b r p

-- the words are refused, or they ask for a game that no draw gives
abbrev pub AskFairInVain : {P : Type 0} → GameFacts P → BoardFacts P → FairWords (List ℕ) → BeginRefusal → Type 0
AskFairInVain f b words NoneFound = (r : FairRequest) × IsAsked b.fair_letter words (Ok r) × HasNoFairGame f b r
AskFairInVain f b words refusal = IsAsked b.fair_letter words (Err refusal)
