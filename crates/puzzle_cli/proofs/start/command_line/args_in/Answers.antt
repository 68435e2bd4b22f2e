use Rattle.std.proofs.Common.{codes, subst}
use Rattle.std.specs.Prelude.{Option, MatchOption}
use Rattle.clap.specs.Words.{first_value, found_of}
use Rattle.puzzle_cli.specs.declared.start.command_line.Args.{Args}
use Rattle.puzzle_cli.specs.CommandLine.{AreUnfit}
use Rattle.puzzle_cli.specs.Inner.WordReading.{AreValuesFound}
use Rattle.puzzle_cli.proofs.CommandLines.{found_is_read, unfit_is_refused}
use Rattle.puzzle_cli.proofs.start.command_line.args_in.Goals as goal

pub returns-in-Some : goal.returns-in-Some
returns-in-Some c =
    let found = found_of c.args.matches.now in
    let told : Option Args → Type 0 = λ args. MatchOption args (AreUnfit (first_value found (codes "game")) (first_value found (codes "id")) (first_value found (codes "load"))) (λ args. AreValuesFound found args) in
    found_is_read _ found c.in-Some.args c.requires (subst told c.in-Some.is c.in_ok-args.ensures)

pub returns-in_ok-refusal_text-in-None : goal.returns-in_ok-refusal_text-in-None
returns-in_ok-refusal_text-in-None c =
    let found = found_of c.args.matches.now in
    let told : Option Args → Type 0 = λ args. MatchOption args (AreUnfit (first_value found (codes "game")) (first_value found (codes "id")) (first_value found (codes "load"))) (λ args. AreValuesFound found args) in
    unfit_is_refused _ found c.requires (subst told c.in-None.is c.in_ok-args.ensures)
