use Rattle.std.proofs.Common.{◌≡◌, drop, map}
use Rattle.play_save.specs.KeyedRecords.{values_of}
use Rattle.play_save.specs.FirstFaults.{first_of}
use Rattle.play_save.specs.Inner.Headers.{header_of}
use Rattle.play_save.proofs.met.Met.first.Given as goal

abbrev pub invariant-loop-record : goal.invariant-loop-record
invariant-loop-record l =
    first_of (values_of l.key (map header_of (drop l.record-index l.self.headers.items)))
    ≡ first_of (values_of l.key (map header_of l.self.headers.items))
