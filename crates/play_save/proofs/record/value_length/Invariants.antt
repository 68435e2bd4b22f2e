use Rattle.std.proofs.Common.{◌≡◌, ◌≤◌, drop}
use Rattle.byte_text.specs.Decimals.{number_from}
use Rattle.play_save.proofs.record.value_length.Given as goal

abbrev pub invariant-loop-digit : goal.invariant-loop-digit
invariant-loop-digit l =
    (number_from 99999999 l.n (drop l.digit-index l.digits) ≡ number_from 99999999 0 l.digits) × (l.n ≤ 99999999)
