-- The answers of reading the next record.
use Rattle.std.proofs.Common.{arith}
use Rattle.std.proofs.lemmas.Bool.Decides.{nat_tests}
use Rattle.std.proofs.Common.{◌≡◌, ℕ, List, Option, option_map, Result, Ok, Err, IfOk, IfErr, MatchOption, Bor}
use Rattle.byte_text.specs.Reading.{Gives}
use Rattle.play_save.specs.declared.fault.LoadFault.{LoadFault}
use Rattle.play_save.specs.declared.fault.LoadFault.TheVariants.{Malformed}
use Rattle.play_save.specs.declared.record.Record.{Record}
use Rattle.play_save.specs.Records.{AreBreaks, BeginsWith, record_at}
use Rattle.play_save.specs.Views.{entry_of, entry_and_rest}
use Rattle.play_save.proofs.RecordLaws.{record_taken, end_taken, record_fault}

-- what a step of reading answers
abbrev pub Answer : Type 0
Answer = Result (Option (Record × Bor (List ℕ))) LoadFault

pub record_found : (bs : List ℕ) (answer : Answer)
    → Gives (option_map entry_and_rest) answer (record_at bs)
    → IfOk answer (λ o. MatchOption o (AreBreaks bs) (λ p. BeginsWith (entry_of p.0) p.1.now bs))
record_found bs answer gives = grind (arith, nat_tests, record_taken, end_taken)

pub record_refused : (bs : List ℕ) (answer : Answer)
    → Gives (option_map entry_and_rest) answer (record_at bs) → IfErr answer (λ f. f ≡ Malformed)
record_refused bs (Ok o) gives = tt
record_refused bs (Err f) gives = record_fault bs f gives
