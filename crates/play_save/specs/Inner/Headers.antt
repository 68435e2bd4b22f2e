-- The header records that were met, as contracts see them, and the counts among them.
use Rattle.std.specs.Prelude.{ℕ, List, map, Option, option_and_then}
use Rattle.play_save.specs.declared.met.HeaderRecord.{HeaderRecord}
use Rattle.play_save.specs.declared.key.WhichCount.{WhichCount}
use Rattle.play_save.specs.declared.key.HeaderKey.TheVariants.{Count}
use Rattle.play_save.specs.declared.key.Key.TheVariants.{Header}
use Rattle.play_save.specs.KeyedRecords.{KeyedRecord, values_of}
use Rattle.play_save.specs.FirstFaults.{first_of, count_at}

-- a header record as contracts see it
abbrev pub header_of : HeaderRecord → KeyedRecord
header_of r = record { key = Header r.key; value = r.value.now }

-- a count among the header records, if it can be read
abbrev pub count_in : List HeaderRecord → WhichCount → Option ℕ
count_in headers which = option_and_then count_at (first_of (values_of (Count which) (map header_of headers)))
