-- The reply to a line by the outcome of the line.
use Rattle.std.proofs.Common.{◌≡◌, ℕ, Bool, false, List, [], Option, Some, None, Result, Ok, Err, IfOk, IfErr, OnErr, refl, sym, subst, ◌∙◌, inl, inr}
use Rattle.play_midend.specs.Histories.{History}
use Rattle.game_texts.specs.declared.params.Params.{Params}
use Rattle.line_replies.specs.declared.machine.Response.{Response}
use Rattle.line_replies.specs.declared.machine.Response.TheVariants.{Reply, Silence, Quit}
use Rattle.line_replies.specs.declared.reply.refusal.Refusal.{Refusal}
use Rattle.line_replies.specs.Lines.{Line, ReplyRule}
use Rattle.line_replies.specs.Commands.{is_quit}
use Rattle.line_replies.specs.GameFacts.{GameFacts}
use Rattle.line_replies.specs.Formats.{Leaves}
use Rattle.line_replies.specs.Machines.{IsResponse}
use Rattle.line_replies.specs.Replies.{LineGives, left, refusal_line}
use Rattle.line_replies.specs.RunLaws.{described_line}
use Rattle.line_replies.specs.SessionReplies.{Outcome}
use Rattle.line_replies.specs.Texts.{text_bytes}
use Rattle.json_replies.specs.declared.begin_line.BeginLine.{BeginLine}
use Rattle.json_replies.specs.declared.begin_refusal.BeginRefusal.{BeginRefusal}
use Rattle.json_replies.specs.BeginLines.{IsBeginLine, begin_at}
use Rattle.json_replies.specs.BeginReplies.{AskFor, AskInVain, BeginGives}
use Rattle.json_replies.specs.FurtherLines.{BoardFacts, further_at}
use Rattle.json_replies.specs.JsonReplies.{TellsOutcome, TellsLine, JsonReply}
use Rattle.json_replies.specs.Replies.{Answer, session_left, reply_data}
use Rattle.json_replies.specs.BeginRefusals.{begin_refusal_name}
use Rattle.json_replies.specs.ObjectLines.{IsLineOfData, OrLost}
use Rattle.json_replies.specs.Sessions.{session_data}
use Rattle.json_replies.specs.Inner.ToldResponses.{TellsResponse, TellsBegun}
use Rattle.json_replies.proofs.ToldReplies.{no_quit, stays}

-- the answer and the session are as `execute` owes them to a line
abbrev pub IsOwed : {P : Type 0} → GameFacts P → Option (History P) → Line → Option (History P) → Result Response Refusal → Type 0
IsOwed f old line new (Ok answer) = IsResponse (λ before read said after. LineGives f before read (Ok (said, after))) is_quit old line answer new
IsOwed f old line new (Err refusal) = (new ≡ old) × (is_quit line ≡ false) × LineGives f old line (Err refusal)

-- by the clauses of `execute`, its answer and the session are as it owes them
pub obeyed : {P : Type 0} (f : GameFacts P) (old new : Option (History P)) (line : Line) (answer : Result Response Refusal)
    → IfOk answer (λ response. IsResponse (λ before read said after. LineGives f before read (Ok (said, after))) is_quit old line response new)
    → OnErr answer (new ≡ old) → OnErr answer (is_quit line ≡ false) → IfErr answer (λ refusal. LineGives f old line (Err refusal))
    → IsOwed f old line new answer
obeyed f old new line (Ok response) ok err goes_on why = ok
obeyed f old new line (Err refusal) ok err goes_on why = (err, goes_on, why)

-- what holds anyhow holds if the answer is a refusal
pub on_refusal : {A : Type 0} (answer : Result Response Refusal) → A → OnErr answer A
on_refusal (Ok response) is = tt
on_refusal (Err refusal) is = is

-- what tells an answer that `execute` owes is a response by a rule, if the rule allows what is told
pub responds : {P : Type 0} (f : GameFacts P) (old new : Option (History P)) (asked line : Line) (rule : ReplyRule (Option (History P)))
    (quit : Line → Bool) (answer : Result Response Refusal) (result : Response) → is_quit asked ≡ quit line
    → ((outcome : Outcome P) (bytes : List ℕ) → LineGives f old asked outcome → new ≡ left old outcome → TellsOutcome f outcome new bytes
    → rule old line bytes new)
    → IsOwed f old asked new answer → TellsResponse f answer new result → IsResponse rule quit old line result new
responds f old new asked line rule quit (Ok (Reply said)) (Reply text) same tells obeys told =
    (sym same ∙ obeys.0, tells (Ok (text_bytes said, new)) (text_bytes text) obeys.1 refl told)
responds f old new asked line rule quit (Ok Silence) Silence same tells obeys told = (sym same ∙ obeys.0, tells (Ok ([], new)) [] obeys.1 refl refl)
responds f old new asked line rule quit (Ok Quit) Quit same tells obeys told = (sym same ∙ obeys.0, obeys.1)
responds f old new asked line rule quit (Err refusal) (Reply text) same tells obeys told =
    (sym same ∙ obeys.1, tells (Err refusal) (text_bytes text) obeys.2 obeys.0 told)
responds f old new asked line rule quit (Ok (Reply said)) Silence same tells obeys told = absurd told
responds f old new asked line rule quit (Ok (Reply said)) Quit same tells obeys told = absurd told
responds f old new asked line rule quit (Ok Silence) (Reply text) same tells obeys told = absurd told
responds f old new asked line rule quit (Ok Silence) Quit same tells obeys told = absurd told
responds f old new asked line rule quit (Ok Quit) (Reply text) same tells obeys told = absurd told
responds f old new asked line rule quit (Ok Quit) Silence same tells obeys told = absurd told
responds f old new asked line rule quit (Err refusal) Silence same tells obeys told = absurd told
responds f old new asked line rule quit (Err refusal) Quit same tells obeys told = absurd told

module _ {P : Type 0} (f : GameFacts P) (b : BoardFacts P) where
  -- what is told to a line that is no other kind
  pub plain_told : (old new : Option (History P)) (line : Line) (outcome : Outcome P) (bytes : List ℕ) → further_at b.fair_letter line ≡ None
      → ((begun : BeginLine (List ℕ)) → IsBeginLine begun line → ⊥) → LineGives f old line outcome → new ≡ left old outcome
      → TellsOutcome f outcome new bytes → JsonReply f b old line bytes new
  plain_told old new line outcome bytes is other gives leaves told = record {
    leaves = (line, (outcome, gives, leaves));
    told = subst (λ w. TellsLine f b old line w bytes new) (sym is) (Ok outcome, inr (other, gives), leaves, told);
  }

  -- the game that a line asks for is told as the answer to `new` with that game
  pub game_told : (old new : Option (History P)) (begun : BeginLine (List ℕ)) (params : Params) (p : P) (outcome : Outcome P) (bytes : List ℕ)
      → AskFor f b old begun params p → LineGives f old (described_line f params p) outcome → new ≡ left old outcome
      → TellsOutcome f outcome new bytes → TellsBegun f b old begun bytes new
  game_told old new begun params p outcome bytes asked gives leaves told = (Ok outcome, (params, p, asked, gives), leaves, told)

  -- the refusal of a line that asks for a game is told by its name
  pub refused_told : (old : Option (History P)) (begun : BeginLine (List ℕ)) (refusal : BeginRefusal) (name bytes : List ℕ)
      → AskInVain f b old begun refusal → name ≡ begin_refusal_name refusal
      → OrLost (IsLineOfData (reply_data (Some name) (refusal_line name) (session_data f old))) bytes → TellsBegun f b old begun bytes old
  refused_told old begun refusal name bytes refused is told = (
    Err refusal,
    refused,
    refl,
    subst (λ (n : List ℕ). OrLost (IsLineOfData (reply_data (Some n) (refusal_line n) (session_data f old))) bytes) is told,
  )

  -- the session that is left by a line that begins a game is one that an answer to some line leaves
  some_leaves : (old new : Option (History P)) (begun : BeginLine (List ℕ)) (answer : Answer P) → BeginGives f b old begun answer
      → new ≡ session_left old answer → (asked : Line) × Leaves f old asked new
  some_leaves old new begun (Ok outcome) (params, p, asked, gives) leaves = (described_line f params p, (outcome, gives, leaves))
  some_leaves old new begun (Err refusal) gives leaves = stays f old new leaves

  -- what is told to the game that a line asks for is a reply to the line
  begin_reply : (old new : Option (History P)) (line : Line) (begun : BeginLine (List ℕ)) (bytes : List ℕ)
      → further_at b.fair_letter line ≡ None
      → IsBeginLine begun line → TellsBegun f b old begun bytes new → JsonReply f b old line bytes new
  begin_reply old new line begun bytes none is (answer, gives, leaves, told) = record {
    leaves = some_leaves old new begun answer gives leaves;
    told = subst (λ w. TellsLine f b old line w bytes new) (sym none) (answer, inl (begun, is, gives), leaves, told);
  }

  -- the response to the game that a line asks for is a response to the line
  pub begin_told : (old new : Option (History P)) (line : Line) (begun : BeginLine (List ℕ)) (result : Response)
      → further_at b.fair_letter line ≡ None → IsBeginLine begun line
      → IsResponse (λ before read bytes after. TellsBegun f b before begun bytes after) (λ read. false) old None result new
      → IsResponse (JsonReply f b) is_quit old line result new
  begin_told old new line begun (Reply text) none is said =
      (no_quit begin_at line begun refl is, begin_reply old new line begun (text_bytes text) none is said.1)
  begin_told old new line begun Silence none is said =
      (no_quit begin_at line begun refl is, begin_reply old new line begun [] none is said.1)
  begin_told old new line begun Quit none is said = absurd (cc (said.0))
