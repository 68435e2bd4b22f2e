-- A session that can be stored is left so by each line.
use Rattle.std.proofs.Common.{◌≡◌, ◌∙◌, ℕ, List, Option, Some, Result, Ok, Err, sym, ap, subst, inl, inr}
use Rattle.game_texts.specs.declared.game_id.GameId.{GameId}
use Rattle.game_texts.specs.declared.game_id.GameId.TheVariants.{Described, Seeded}
use Rattle.game_texts.specs.declared.id_fault.IdFault.{IdFault}
use Rattle.game_texts.specs.declared.params.Params.{Params}
use Rattle.game_texts.specs.Parameters.{IsParams}
use Rattle.puzzle_gen.specs.declared.gen_fault.GenFault.{GenFault}
use Rattle.puzzle_gen.specs.Generating.{Generates}
use Rattle.needed_items.proofs.ItemLaws.{ItemLaws}
use Rattle.puzzle_gen.proofs.GeneratedOnce.{generated_valid}
use Rattle.play_midend.specs.Histories.{History, IsStorable}
use Rattle.play_midend.specs.Laws.{Call}
use Rattle.play_midend.proofs.StorableLaws.{starts_storable, storable_answered}
use Rattle.line_replies.specs.GameFacts.{GameFacts}
use Rattle.line_replies.specs.NewSessions.{no_extras, new_game, generated_game, IsIdRead, IdBegins, TextBegins}
use Rattle.line_replies.specs.SessionReplies.{Outcome, call_sentence}
use Rattle.line_replies.specs.Replies.{left}
use Rattle.line_replies.specs.RunLaws.{AnswersCall, IsNoneOrStorable, AnswersStayStorable}
use Rattle.line_replies.proofs.ReplySteps.{Step, reply_step, sentence_left}

-- ---- a session that can be stored

-- a session that stays as it was can be stored as before
kept_storable : {P : Type 0} (f : GameFacts P) (old new : Option (History P)) → new ≡ old → IsNoneOrStorable f old → IsNoneOrStorable f new
kept_storable {P} f old new stays s = subst (λ (o : Option (History P)). IsNoneOrStorable f o) (sym stays) s

-- what a call leaves of a session that can be stored can be stored
call_storable : {P : Type 0} (f : GameFacts P) (h : History P) (call : Call) (outcome : Outcome P)
    → IsNoneOrStorable f (Some h) → AnswersCall f h call outcome → IsNoneOrStorable f (left (Some h) outcome)
call_storable f h call outcome s (Ok u, new, gives, (text, made, is)) =
    kept_storable f (Some new) (left (Some h) outcome) (ap (left (Some h)) is)
    (storable_answered f.rules.puzzle f.rules.valid f.letters h new call (Ok u) s gives)
call_storable f h call outcome s (Err fault, new, (stays, why), is) =
    kept_storable f (Some new) (left (Some h) outcome)
    (ap (left (Some h)) is ∙ sentence_left h new (call_sentence call fault) fault stays)
    (storable_answered f.rules.puzzle f.rules.valid f.letters h new call (Err fault) s (stays, why))

module _ {P : Type 0} (f : GameFacts P) (laws : ItemLaws f.rules) where
  -- a new session of a puzzle of the size of its parameters can be stored
  new_storable : (params : Params) (puzzle : P) (k : History P) → IsParams f.letters params → f.rules.valid puzzle
      → params.size ≡ (f.rules.puzzle puzzle).size
      → new_game params puzzle ≡ k → IsStorable f.rules.puzzle f.rules.valid f.letters k
  new_storable params puzzle k letters valid size same =
      subst (λ (h : History P). IsStorable f.rules.puzzle f.rules.valid f.letters h) same
      (starts_storable f.rules.puzzle f.rules.valid f.letters puzzle params params no_extras valid letters letters size)

  -- the new session of a generated puzzle can be stored
  generated_storable : (params : Params) (seed : ℕ) (k : History P) (made : Result P GenFault) → IsParams f.letters params
      → Generates f.rules params seed made
      → generated_game params made ≡ Ok k → IsStorable f.rules.puzzle f.rules.valid f.letters k
  generated_storable params seed k (Ok puzzle) letters gives e =
      let is = generated_valid f.rules params seed puzzle laws gives in
      new_storable params puzzle k letters is.0 (sym is.1) cc
  generated_storable params seed k (Err fault) letters gives e = cc

  -- the session that an ID begins can be stored
  id_storable : (text : List ℕ) (k : History P) (read : Result (GameId P) IdFault) → IsIdRead f text read
      → IdBegins f read (Ok k) → IsStorable f.rules.puzzle f.rules.valid f.letters k
  id_storable text k (Ok (Described params puzzle)) (letters, (desc, spelled, (describes, valid, size))) e =
      new_storable params puzzle k letters valid (sym size) cc
  id_storable text k (Ok (Seeded params seed)) (letters, within, spelled) (made, gives, e) =
      generated_storable params seed k made letters gives e
  id_storable text k (Err fault) is e = cc

  -- what a game ID begins can be stored
  pub begins_storable : (text : List ℕ) (k : History P) → TextBegins f text (Ok k) → IsNoneOrStorable f (Some k)
  begins_storable text k (read, is, begins) = id_storable text k read is begins

-- what a step leaves of a storable session is storable
step_storable : {P : Type 0} (f : GameFacts P) → ItemLaws f.rules → (old : Option (History P)) (outcome : Outcome P)
    → IsNoneOrStorable f old → Step f old outcome → IsNoneOrStorable f (left old outcome)
step_storable f laws old outcome s (inl (id, k, begins, is)) =
    kept_storable f (Some k) (left old outcome) (ap (left old) is) (begins_storable f laws id k begins)
step_storable {P} f laws old outcome s (inr (inl (h, call, there, answers))) =
    kept_storable f (left (Some h) outcome) (left old outcome) (ap (λ (o : Option (History P)). left o outcome) there)
    (call_storable f h call outcome (kept_storable f old (Some h) (sym there) s) answers)
step_storable f laws old outcome s (inr (inr stays)) = kept_storable f old (left old outcome) stays s

-- what a line leaves of a storable session is storable
pub answers_stay_storable : {P : Type 0} (f : GameFacts P) → ItemLaws f.rules → AnswersStayStorable f
answers_stay_storable f laws old line outcome s (read, is, gives) =
    step_storable f laws old outcome s (reply_step f old outcome read gives)
