-- The commands and their lines.
use Rattle.std.specs.Prelude.{◌≡◌, ◌≢◌, ℕ, ◌≤◌, Bool, false, List, [], ◌∷◌, ◌++◌, codes, bytes_eq, ◌⊎◌, Option, Some, None, Result, Ok, Err}
use denote.Ref.{Bor}
use Rattle.std.specs.Fmt.{decimal}
use Rattle.trail_solver.specs.declared.listing.TheConstants.{MOST_LISTED}
use Rattle.line_replies.specs.declared.command.Command.{Command}
use Rattle.line_replies.specs.declared.command.Command.TheVariants.{New, Quit, Ask}
use Rattle.line_replies.specs.declared.command.Request.{Request}
use Rattle.line_replies.specs.declared.command.Request.TheVariants.{Act, Tell, Listing}
use Rattle.line_replies.specs.declared.command.Action.{Action}
use Rattle.line_replies.specs.declared.command.Action.TheVariants.{Play, Undo, Redo, Restart, Solve}
use Rattle.line_replies.specs.declared.command.View.TheVariants.{Show, Marks, Status, Id, Done, Save}
use Rattle.line_replies.specs.declared.command.line_fault.LineFault.{LineFault}
use Rattle.line_replies.specs.declared.command.line_fault.LineFault.TheVariants.{LongLine, BadCommand, NoGame}
use Rattle.line_replies.specs.Lines.{Line}

-- the commands of a word alone
abbrev pub words : List (List ℕ × Command (List ℕ))
words =
    (codes "undo", Ask (Act Undo))
    ∷ (codes "redo", Ask (Act Redo))
    ∷ (codes "restart", Ask (Act Restart))
    ∷ (codes "solve", Ask (Act Solve))
    ∷ (codes "show", Ask (Tell Show))
    ∷ (codes "marks", Ask (Tell Marks))
    ∷ (codes "status", Ask (Tell Status))
    ∷ (codes "id", Ask (Tell Id))
    ∷ (codes "done", Ask (Tell Done))
    ∷ (codes "save", Ask (Tell Save))
    ∷ (codes "quit", Quit)
    ∷ []

-- the first entry of the table under this line has this value
abbrev pub IsEntry : {A : Type 0} → List (List ℕ × A) → List ℕ → A → Type 0
IsEntry [] line a = ⊥
IsEntry (row ∷ rows) line a = ((line ≡ row.0) × (a ≡ row.1)) ⊎ ((line ≢ row.0) × IsEntry rows line a)

-- the line is a command's word and its argument: a list is of 1 to `MOST_LISTED` solutions
abbrev pub HasArgument : Command (List ℕ) → List ℕ → Type 0
HasArgument (New id) line = line ≡ codes "new " ++ id
HasArgument (Ask (Act (Play text))) line = line ≡ codes "move " ++ text
HasArgument (Ask (Listing n)) line = (1 ≤ n) × (n ≤ MOST_LISTED) × (line ≡ codes "list " ++ decimal n)
HasArgument _ line = ⊥

-- the line is that of the command
abbrev pub IsLineOfCommand : Command (List ℕ) → List ℕ → Type 0
IsLineOfCommand command line = IsEntry words line command ⊎ HasArgument command line

-- whether a line ends the run
abbrev pub is_quit : Line → Bool
is_quit None = false
is_quit (Some line) = bytes_eq line (codes "quit")

-- what a line is read as: nothing, a command whose argument is of type X, or why there is none
abbrev pub Reading : Type 0 → Type 0
Reading X = Result (Option (Command X)) LineFault

-- a line as it is read: nothing where it is empty, otherwise its command, or why there is none
abbrev pub IsRead : Line → Reading (List ℕ) → Type 0
IsRead line (Ok None) = line ≡ Some []
IsRead line (Ok (Some command)) = (text : List ℕ) × (line ≡ Some text) × IsLineOfCommand command text
IsRead line (Err LongLine) = line ≡ None
IsRead line (Err BadCommand) =
    (text : List ℕ) × (line ≡ Some text) × (text ≢ []) × ((command : Command (List ℕ)) → IsLineOfCommand command text → ⊥)
IsRead line (Err NoGame) = ⊥

-- a request for a list is for 1 to `MOST_LISTED` solutions
abbrev pub IsInRange : {T : Type 0} → Request T → Type 0
IsInRange (Listing n) = (1 ≤ n) × (n ≤ MOST_LISTED)
IsInRange _ = Unit {0}

-- an action with its text changed by f
abbrev pub action_map : {X Y : Type 0} → (X → Y) → Action X → Action Y
action_map f (Play text) = Play (f text)
action_map f Undo = Undo
action_map f Redo = Redo
action_map f Restart = Restart
action_map f Solve = Solve

-- a request with its text changed by f
abbrev pub request_map : {X Y : Type 0} → (X → Y) → Request X → Request Y
request_map f (Act action) = Act (action_map f action)
request_map f (Tell view) = Tell view
request_map f (Listing n) = Listing n

-- a command with its text changed by f
abbrev pub command_map : {X Y : Type 0} → (X → Y) → Command X → Command Y
command_map f (New id) = New (f id)
command_map f Quit = Quit
command_map f (Ask request) = Ask (request_map f request)

-- what was read, with its text changed by f
abbrev pub read_map : {X Y : Type 0} → (X → Y) → Reading X → Reading Y
read_map f (Ok None) = Ok None
read_map f (Ok (Some command)) = Ok (Some (command_map f command))
read_map f (Err fault) = Err fault

-- an action with its text in place of the loan of it
abbrev pub action_copied : {X : Type 0} → Action (Bor X) → Action X
action_copied action = action_map (λ text. text.now) action

-- a request with its text in place of the loan of it
abbrev pub request_copied : {X : Type 0} → Request (Bor X) → Request X
request_copied request = request_map (λ text. text.now) request

-- a command with its text in place of the loan of it
abbrev pub command_copied : {X : Type 0} → Command (Bor X) → Command X
command_copied command = command_map (λ text. text.now) command

-- what was read, with its text in place of the loan of it
abbrev pub read_copied : {X : Type 0} → Reading (Bor X) → Reading X
read_copied read = read_map (λ text. text.now) read

-- a command that asks for a list asks for 1 to `MOST_LISTED` solutions
abbrev pub IsCommandInRange : {T : Type 0} → Command T → Type 0
IsCommandInRange (Ask request) = IsInRange request
IsCommandInRange _ = Unit {0}
