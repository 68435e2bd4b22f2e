-- How a program ends.
use Rattle.std.specs.Prelude.{◌≡◌, ◌⊎◌, ℕ, Option, Some, None}
use Rattle.puzzle_cli.specs.declared.fault.Fault.{Fault}
use Rattle.puzzle_cli.specs.declared.fault.Fault.TheVariants.{Words}
use Rattle.puzzle_cli.specs.declared.start.command_fault.CommandFault.TheVariants.{HelpAsked}
use Rattle.puzzle_cli.specs.Faults.{fault_status}

-- the fault is that help was asked for
abbrev pub IsHelp : Fault → Type 0
IsHelp (Words (HelpAsked text)) = Unit {0}
IsHelp fault = ⊥

-- the status is that of the fault, or 1 where help couldn't be written; without a fault it is 0
abbrev pub IsStatus : Option Fault → ℕ → Type 0
IsStatus None status = status ≡ 0
IsStatus (Some fault) status = (status ≡ fault_status fault) ⊎ (IsHelp fault × (status ≡ 1))
