-- The answers to a line, over a session or none, and the session that is left.
use Rattle.std.specs.Prelude.{◌≡◌, ◌⊎◌, ℕ, List, [], ◌∷◌, ◌++◌, codes, Option, Some, None, Result, Ok, Err}
use Rattle.play_midend.specs.Histories.{History}
use Rattle.line_replies.specs.declared.command.Command.{Command}
use Rattle.line_replies.specs.declared.command.Command.TheVariants.{New, Quit, Ask}
use Rattle.line_replies.specs.declared.command.line_fault.LineFault.TheVariants.{NoGame}
use Rattle.line_replies.specs.declared.reply.refusal.Refusal.{Refusal}
use Rattle.line_replies.specs.declared.reply.refusal.Refusal.TheVariants.{Line as OfLine, Memory}
use Rattle.line_replies.specs.declared.start.start_fault.StartFault.{StartFault}
use Rattle.line_replies.specs.Lines.{Line}
use Rattle.line_replies.specs.Commands.{Reading, IsRead}
use Rattle.line_replies.specs.Refusals.{refusal_name, start_refusal}
use Rattle.line_replies.specs.GameFacts.{GameFacts}
use Rattle.line_replies.specs.NewSessions.{TextBegins}
use Rattle.line_replies.specs.SessionReplies.{Outcome, ok_line, RequestGives, RequestTakesMemory}
use Rattle.byte_text.specs.Bytes.{line_feed}

-- `ok` and the session that is begun, or the refusal
abbrev pub begun : {P : Type 0} → Result (History P) StartFault → Outcome P
begun (Ok h) = Ok (ok_line, Some h)
begun (Err fault) = Err (start_refusal fault)

-- what a command makes of a session or none, with ample memory
abbrev pub CommandGives : {P : Type 0} → GameFacts P → Option (History P) → Command (List ℕ) → Outcome P → Type 0
CommandGives {P} f old (New id) outcome =
    (exact : Result (History P) StartFault) × TextBegins f id exact × (outcome ≡ begun exact)
CommandGives f old Quit outcome = outcome ≡ Ok ([], old)
CommandGives f None (Ask request) outcome = outcome ≡ Err (OfLine NoGame)
CommandGives f (Some h) (Ask request) outcome = RequestGives f h request outcome

-- what a line that was read makes of a session or none, with ample memory: an empty one has no reply
abbrev pub ReadGives : {P : Type 0} → GameFacts P → Option (History P) → Reading (List ℕ) → Outcome P → Type 0
ReadGives f old (Ok None) outcome = outcome ≡ Ok ([], old)
ReadGives f old (Ok (Some command)) outcome = CommandGives f old command outcome
ReadGives f old (Err fault) outcome = outcome ≡ Err (OfLine fault)

-- The command takes memory, and nothing else refuses it.
abbrev pub CommandTakesMemory : {P : Type 0} → GameFacts P → Option (History P) → Command (List ℕ) → Type 0
CommandTakesMemory {P} f old (New id) = (new : History P) × TextBegins f id (Ok new)
CommandTakesMemory f old Quit = ⊥
CommandTakesMemory f None (Ask request) = ⊥
CommandTakesMemory f (Some h) (Ask request) = RequestTakesMemory f h request

-- whether the answer to what was read takes memory: nothing and faults take none
abbrev pub ReadTakesMemory : {P : Type 0} → GameFacts P → Option (History P) → Reading (List ℕ) → Type 0
ReadTakesMemory f old (Ok None) = ⊥
ReadTakesMemory f old (Ok (Some command)) = CommandTakesMemory f old command
ReadTakesMemory f old (Err fault) = ⊥

-- the refusal is what comes with ample memory, or Memory in place of an answer that takes some
abbrev pub Explains : {A : Type 0} → (Result A Refusal → Type 0) → Type 0 → Refusal → Type 0
Explains gives takes_memory refusal = gives (Err refusal) ⊎ (takes_memory × (refusal ≡ Memory))

-- what a line that was read may make of it: what comes with ample memory, or the refusal Memory
abbrev pub ReadMayGive : {P : Type 0} → GameFacts P → Option (History P) → Reading (List ℕ) → Outcome P → Type 0
ReadMayGive f old read (Ok said) = ReadGives f old read (Ok said)
ReadMayGive f old read (Err refusal) = Explains (ReadGives f old read) (ReadTakesMemory f old read) refusal

-- The outcome of a line, over a session or none: the answer and the session that is left, or why it is
-- refused. The one choice is Memory.
abbrev pub LineGives : {P : Type 0} → GameFacts P → Option (History P) → Line → Outcome P → Type 0
LineGives f old line outcome = (read : Reading (List ℕ)) × IsRead line read × ReadMayGive f old read outcome

-- what a line makes of a session or none, with ample memory
abbrev pub AmpleGives : {P : Type 0} → GameFacts P → Option (History P) → Line → Outcome P → Type 0
AmpleGives f old line outcome = (read : Reading (List ℕ)) × IsRead line read × ReadGives f old read outcome

-- the session that is left: a refusal leaves the one before
abbrev pub left : {P : Type 0} → Option (History P) → Outcome P → Option (History P)
left old (Ok said) = said.1
left old (Err refusal) = old

-- ---- as lines of text

-- the line that tells a refusal
abbrev pub refusal_line : List ℕ → List ℕ
refusal_line name = codes "refused: " ++ name ++ line_feed ∷ []

-- what a line's outcome is as lines of text
abbrev pub plain_text : {P : Type 0} → Outcome P → List ℕ
plain_text (Ok said) = said.0
plain_text (Err refusal) = refusal_line (refusal_name refusal)

-- the bytes are the plain text of an outcome, and the session is the one that it leaves
abbrev pub Tells : {P : Type 0} → (Outcome P → Type 0) → Option (History P) → List ℕ → Option (History P) → Type 0
Tells {P} gives old bytes new =
    (outcome : Outcome P) × gives outcome × (bytes ≡ plain_text outcome) × (new ≡ left old outcome)

-- the reply to a line and the session that it leaves, with ample memory
abbrev pub AmpleReply : {P : Type 0} → GameFacts P → Option (History P) → Line → List ℕ → Option (History P) → Type 0
AmpleReply f old line bytes new = Tells (AmpleGives f old line) old bytes new

-- the reply to a line and the session that it leaves
abbrev pub Reply : {P : Type 0} → GameFacts P → Option (History P) → Line → List ℕ → Option (History P) → Type 0
Reply f old line bytes new = Tells (LineGives f old line) old bytes new
