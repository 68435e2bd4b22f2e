-- Reading a line: the command that it is, as a function on lists.
use Rattle.std.specs.Prelude.{ℕ, ◌==◌, if◌then◌else◌, List, [], ◌∷◌, length, take, drop, codes, bytes_eq, Option, Some}
use Rattle.std.specs.Prelude.{None, option_map, option_and_then, Ok, Err, ok_or}
use Rattle.std.specs.Option.{option_or}
use Rattle.byte_text.specs.Decimals.{decimal_value}
use Rattle.trail_solver.specs.declared.listing.TheConstants.{MOST_LISTED}
use Rattle.line_replies.specs.declared.command.Command.{Command}
use Rattle.line_replies.specs.declared.command.Command.TheVariants.{New, Ask}
use Rattle.line_replies.specs.declared.command.Request.TheVariants.{Act, Listing}
use Rattle.line_replies.specs.declared.command.Action.TheVariants.{Play}
use Rattle.line_replies.specs.declared.command.line_fault.LineFault.TheVariants.{LongLine, BadCommand}
use Rattle.line_replies.specs.Lines.{Line}
use Rattle.line_replies.specs.Commands.{Reading, words}

-- the part of a line behind a front, if the line begins with the front
abbrev pub rest_behind : List ℕ → List ℕ → Option (List ℕ)
rest_behind front line = if bytes_eq (take (length front) line) front then Some (drop (length front) line) else None

-- the first entry of a table under a line
abbrev pub entry_at : {A : Type 0} → List (List ℕ × A) → List ℕ → Option A
entry_at [] line = None
entry_at (row ∷ rows) line = if bytes_eq line row.0 then Some row.1 else entry_at rows line

-- the command of a word without an argument
abbrev pub word_at : List ℕ → Option (Command (List ℕ))
word_at line = entry_at words line

-- a number, if it isn't 0
abbrev pub nonzero : ℕ → Option ℕ
nonzero n = if n == 0 then None else Some n

-- a limit: a decimal from 1 to MOST_LISTED
abbrev pub limit_at : List ℕ → Option ℕ
limit_at text = option_and_then nonzero (decimal_value MOST_LISTED text)

-- the command of a word and its argument
abbrev pub argument_at : List ℕ → Option (Command (List ℕ))
argument_at line =
    option_or (option_map New (rest_behind (codes "new ") line))
    (option_or (option_map (λ text. Ask (Act (Play text))) (rest_behind (codes "move ") line))
    (option_map (λ n. Ask (Listing n)) (option_and_then limit_at (rest_behind (codes "list ") line))))

-- the command that a text is, if any
unfoldable pub command_at : List ℕ → Option (Command (List ℕ))
command_at line = option_or (word_at line) (argument_at line)

-- what a line is read as
abbrev pub read_at : Line → Reading (List ℕ)
read_at None = Err LongLine
read_at (Some text) = if length text == 0 then Ok None else ok_or (option_map Some (command_at text)) BadCommand
