-- The session that a line `fair` begins.
use Rattle.std.proofs.Common.{◌≡◌, ◌⊎◌, ℕ, List, Option, Some, None, Ok, Err, IfSome, Contains, refl, sym, ap, subst, ◌∙◌, inl, inr}
use Rattle.std.specs.Option.{IsSomeAnd}
use Rattle.game_texts.specs.declared.params.Params.{Params}
use Rattle.game_texts.specs.Parameters.{IsParams}
use Rattle.play_midend.specs.Histories.{History}
use Rattle.line_steps.specs.declared.grade.Grade.{Grade}
use Rattle.fair_games.proofs.PruneSteps.{HasSteps}
use Rattle.fair_games.proofs.FairSteps.{fair_puzzle, fair_solved, draw_size}
use Rattle.line_replies.specs.declared.reply.refusal.Refusal.TheVariants.{Memory}
use Rattle.line_replies.specs.Lines.{Line}
use Rattle.line_replies.specs.GameFacts.{GameFacts}
use Rattle.line_replies.specs.NewSessions.{new_game}
use Rattle.line_replies.specs.SessionReplies.{Outcome, ok_line}
use Rattle.line_replies.specs.Replies.{LineGives, left}
use Rattle.line_replies.specs.RunLaws.{described_line}
use Rattle.line_replies.proofs.RepliesOnce.{IdsAreReadOnce}
use Rattle.line_replies.proofs.DescribedReplies.{AreCanonical, described_lines_begin}
use Rattle.json_replies.specs.declared.begin_line.BeginLine.{BeginLine}
use Rattle.json_replies.specs.declared.begin_line.BeginLine.TheVariants.{Fair}
use Rattle.json_replies.specs.declared.fair_words.FairWords.{FairWords}
use Rattle.json_replies.specs.declared.fair_request.FairRequest.{FairRequest}
use Rattle.json_replies.specs.FairLines.{IsFairLine, IsAsked, AreFairLetters}
use Rattle.json_replies.specs.FairReplies.{fair_params, IsGameOfRequest}
use Rattle.json_replies.specs.BeginReplies.{BeginGives}
use Rattle.json_replies.specs.FairLaws.{IsFairStart, FairLinesBegin}
use Rattle.json_replies.specs.FurtherLines.{BoardFacts, further_at}
use Rattle.json_replies.specs.JsonReplies.{AnswerGives, TellsLine}
use Rattle.json_replies.specs.Replies.{Answer, session_left}
use Rattle.json_replies.proofs.BeginReading.{fair_again}

-- the letter of a grade is one of the game's
known_letter : (letters : List ℕ) (own : Option ℕ) (code : ℕ) → own ≡ Some code → Contains letters code → IfSome own (Contains letters)
known_letter letters own code is contains = subst (λ (o : Option ℕ). IfSome o (Contains letters)) (sym is) contains

-- what the words ask for has parameters of the game
pub asked_params : (letters : List ℕ) (letter : Grade → Option ℕ) → AreFairLetters letters letter → (words : FairWords (List ℕ)) (r : FairRequest)
    → IsAsked letter words (Ok r) → IsParams letters (record { size = r.size; letter = letter r.grade })
asked_params letters letter own words r (size, (code, is, offered, word), seed) = record {
  smallest = size.0;
  largest = size.1;
  letter = known_letter letters (letter r.grade) code is (own.known r.grade code is);
}

module _ {P : Type 0} (f : GameFacts P) (b : BoardFacts P) (steps : HasSteps f.rules b.struck_by) (ids : IdsAreReadOnce f) (canonical : AreCanonical f)
    (letters : AreFairLetters f.letters b.fair_letter) where
  -- the new session of a fair game is as a line `fair` is to begin it
  fair_start : (r : FairRequest) (p : P) → IsGameOfRequest f b r p → IsFairStart f b r (new_game (fair_params b r) p)
  fair_start r p game =
      let (solution, solved) = fair_solved f.rules b.struck_by steps r.grade _ p game in
      record { fair = game; start = refl; solution = solution; only = solved.0; follows = solved.1; graded = game.graded }

  -- `new` with the ID of a fair game begins its session, or is refused for want of memory
  new_gives : (old : Option (History P)) (words : FairWords (List ℕ)) (r : FairRequest) (p : P) (outcome : Outcome P)
      → IsAsked b.fair_letter words (Ok r) → IsGameOfRequest f b r p → LineGives f old (described_line f (fair_params b r) p) outcome
      → (outcome ≡ Ok (ok_line, Some (new_game (fair_params b r) p))) ⊎ (outcome ≡ Err Memory)
  new_gives old words r p outcome asked game gives =
      let cut = fair_puzzle f.rules b.struck_by r.grade _ p steps.items game in
      let size : (f.rules.puzzle p).size ≡ r.size = cut.size ∙ draw_size (b.trial r.grade) r.size (f.rules.items_of r.size) _ game.draw in
      (described_lines_begin f steps.items ids canonical old (fair_params b r) p (asked_params f.letters b.fair_letter letters words r asked) cut.valid
      (sym size)).others outcome gives

  -- the session stays, or becomes that of the fair game that the words ask for
  abbrev Begins : Option (History P) → FairWords (List ℕ) → Option (History P) → Type 0
  Begins old words new = (new ≡ old) ⊎ ((r : FairRequest) × IsAsked b.fair_letter words (Ok r) × IsSomeAnd new (IsFairStart f b r))

  -- what `new` with the fair game leaves is what the words begin
  outcome_begins : (old new : Option (History P)) (words : FairWords (List ℕ)) (r : FairRequest) (p : P) (outcome : Outcome P)
      → IsAsked b.fair_letter words (Ok r) → IsGameOfRequest f b r p
      → (outcome ≡ Ok (ok_line, Some (new_game (fair_params b r) p))) ⊎ (outcome ≡ Err Memory) → new ≡ left old outcome → Begins old words new
  outcome_begins old new words r p outcome asked game (inl is) leaves =
      let begun : new ≡ Some (new_game (fair_params b r) p) = leaves ∙ ap (left old) is in
      inr (r, asked, subst (λ (o : Option (History P)). IsSomeAnd o (IsFairStart f b r)) (sym begun) (fair_start r p game))
  outcome_begins old new words r p outcome asked game (inr is) leaves = inl (leaves ∙ ap (left old) is)

  -- what an answer to the words leaves is what the words begin
  answer_begins : (old new : Option (History P)) (words : FairWords (List ℕ)) (answer : Answer P) → BeginGives f b old (Fair words) answer
      → new ≡ session_left old answer → Begins old words new
  answer_begins old new words (Ok outcome) (params, p, (r, asked, is, game), gives) leaves =
      let same : LineGives f old (described_line f (fair_params b r) p) outcome =
      subst (λ (q : Params). LineGives f old (described_line f q p) outcome) is gives in
      outcome_begins old new words r p outcome asked game (new_gives old words r p outcome asked game same) leaves
  answer_begins old new words (Err refusal) gives leaves = inl leaves

  -- what an answer to a line `fair` leaves is what its words begin
  line_begins : (old new : Option (History P)) (line : Line) (words : FairWords (List ℕ)) (answer : Answer P) → IsFairLine words line
      → AnswerGives f b old line answer → new ≡ session_left old answer → Begins old words new
  line_begins old new line words answer is (inl (own, so, gives)) leaves =
      let both : Some own ≡ Some (Fair words) = sym so ∙ fair_again line words is in
      let same : own ≡ Fair words = cc both in
      answer_begins old new words answer (subst (λ (w : BeginLine (List ℕ)). BeginGives f b old w answer) same gives) leaves
  line_begins old new line words answer is (inr (other, gives)) leaves = absurd (other (Fair words)
      (fair_again line words is))

  pub fair_lines_begin : FairLinesBegin f b
  fair_lines_begin old new line words bytes is reply =
      let none : further_at b.fair_letter line ≡ None = ap (further_at b.fair_letter) is.spelled in
      let (answer, gives, leaves, told) = subst (λ w. TellsLine f b old line w bytes new) none reply.told in
      line_begins old new line words answer is gives leaves
