use Rattle.std.proofs.Common.{◌≢◌, rules}
use Rattle.clap.specs.Values.{kind_of}
use Rattle.clap.specs.declared.error.kind.ErrorKind.TheVariants.{OutOfMemory}
use Rattle.puzzle_cli.proofs.CommandLines.{told_is_read}
use Rattle.puzzle_cli.proofs.start.command_line.fault_of.Goals as goal

pub returns : goal.returns
returns c =
    let other : kind_of c.args.error.now ≢ OutOfMemory = search rules in
    told_is_read _ (kind_of c.args.error.now) c.told_of.result c.requires other c.told_of.ensures
