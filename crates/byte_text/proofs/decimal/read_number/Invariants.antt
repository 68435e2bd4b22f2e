use Rattle.std.proofs.Common.{◌≡◌, drop}
use Rattle.byte_text.specs.Decimals.{number_from}
use Rattle.byte_text.proofs.decimal.read_number.Given as goal

abbrev pub invariant-loop-digit : goal.invariant-loop-digit
invariant-loop-digit l =
    number_from l.greatest l.n (drop l.digit-index l.bytes) ≡ number_from l.greatest 0 l.bytes
