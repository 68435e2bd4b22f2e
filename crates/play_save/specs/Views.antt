-- The values of the code's types, as lists of bytes.
use Rattle.std.specs.Prelude.{ℕ, List}
use Rattle.std.specs.Borrow.{Bor}
use Rattle.play_save.specs.declared.record.Record.{Record}
use Rattle.play_save.specs.Records.{Entry}

-- a record, as contracts see it
abbrev pub entry_of : Record → Entry
entry_of r = record { key = r.key.now; value = r.value.now }

-- a record and what follows it
abbrev pub entry_and_rest : Record × Bor (List ℕ) → Entry × List ℕ
entry_and_rest p = (entry_of p.0, p.1.now)
