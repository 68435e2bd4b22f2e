-- The replies to a line, in an object.
use Rattle.std.proofs.Common.{◌≡◌, ℕ, ◌==◌, true, false, true≢false, List, [], ◌∷◌, length, codes, bytes_eq, Option, Some, None, Ok, Err, refl, sym, ap, subst, ◌∙◌, inl, arith}
use Rattle.std.proofs.lemmas.Slice.Eq.{bytes_eq-Decides}
use Rattle.std.proofs.lemmas.Bool.Decides.{nat_tests}
use Rattle.serde_json.specs.Data.{Data}
use Rattle.play_midend.specs.Histories.{History}
use Rattle.line_replies.specs.Lines.{Line}
use Rattle.line_replies.specs.GameFacts.{GameFacts}
use Rattle.line_replies.specs.declared.command.line_fault.LineFault.TheVariants.{LongLine}
use Rattle.line_replies.specs.declared.reply.refusal.Refusal.TheVariants.{Line as OfLine}
use Rattle.line_replies.specs.Commands.{is_quit}
use Rattle.line_replies.specs.Formats.{Leaves}
use Rattle.json_replies.specs.Replies.{reply_data}
use Rattle.json_replies.specs.ObjectLines.{OrLost, IsLineOfData}
use Rattle.json_replies.specs.Sessions.{session_data}
use Rattle.json_replies.specs.JsonReplies.{TellsOutcome, TellsLine, JsonReply}
use Rattle.json_replies.specs.declared.further_line.FurtherLine.{FurtherLine}
use Rattle.latin_board.specs.Boards.{BoardValue}
use Rattle.line_replies.specs.SessionReplies.{shown_board}
use Rattle.json_replies.specs.FurtherLines.{BoardFacts, Further, further_at, IsFurtherLine, IsAnswer}

-- if nothing is said, no bytes tell the outcome
pub tells_nothing : {P : Type 0} (f : GameFacts P) (said : List ℕ) (last new : Option (History P)) (bytes : List ℕ)
    → (length said == 0) ≡ true → bytes ≡ [] → TellsOutcome f (Ok (said, last)) new bytes
tells_nothing f [] last new bytes none is = is
tells_nothing f (x ∷ said) last new bytes none is =
    let some : (length (x ∷ said) == 0) ≡ false = grind (arith, nat_tests) in
    absurd (true≢false (sym none ∙ some))

-- if something is said, the line of its object tells the outcome
pub tells_said : {P : Type 0} (f : GameFacts P) (said : List ℕ) (last new : Option (History P)) (bytes : List ℕ)
    → (length said == 0) ≡ false → OrLost (IsLineOfData (reply_data None said (session_data f new))) bytes → TellsOutcome f (Ok (said, last)) new bytes
tells_said f [] last new bytes some told = absurd (true≢false some)
tells_said f (x ∷ said) last new bytes some told = told

-- ---- what is said to a line

-- where `quit` isn't read as anything, a line that is read as something doesn't end the run
pub no_quit : {A : Type 0} (read : Line → Option A) (line : Line) (a : A) → read (Some (codes "quit")) ≡ None
    → read line ≡ Some a
    → is_quit line ≡ false
no_quit read None a none is = refl
no_quit read (Some text) a none is =
    elim (bytes_eq text (codes "quit")) as (λ t. bytes_eq text (codes "quit") ≡ t → t ≡ false) [
      | true ↦ λ same.
          let both : None ≡ Some a = sym none ∙ ap (λ t. read (Some t)) (sym ((bytes_eq-Decides text
          (codes "quit")).0 same)) ∙ is in
          absurd (cc both)
      | false ↦ λ other. refl
    ] refl

-- a session that stays is one that a line that is too long leaves
pub stays : {P : Type 0} (f : GameFacts P) (old new : Option (History P)) → new ≡ old
    → (asked : Line) × Leaves f old asked new
stays f old new same = (None, (Err (OfLine LongLine), (Err LongLine, refl, inl refl), same))

-- the answer to a line beside the commands is a reply to it that leaves the session
pub further_told : {P : Type 0} (f : GameFacts P) (b : BoardFacts P) (old : Option (History P)) (line : Line) (asked : Further) (bytes : List ℕ)
    → further_at b.fair_letter line ≡ Some asked → OrLost (IsFurtherLine f b asked old) bytes → JsonReply f b old line bytes old
further_told f b old line asked bytes is told = record {
  leaves = stays f old old refl;
  told = subst (λ w. TellsLine f b old line w bytes old) (sym is) (refl, told);
}

-- an answer for a puzzle and a board that are those of a session is one for the session
pub answer_told : {P : Type 0} (f : GameFacts P) (b : BoardFacts P) (h : History P) (p : P) (shown : BoardValue)
    (which : FurtherLine)
    (answer : Data) → p ≡ h.puzzle → shown ≡ shown_board f h → IsAnswer f b p shown which answer
    → IsAnswer f b h.puzzle (shown_board f h) which answer
answer_told f b h p shown which answer puzzle board told =
    subst (λ s. IsAnswer f b h.puzzle s which answer) board (subst (λ q. IsAnswer f b q shown which answer) puzzle told)
