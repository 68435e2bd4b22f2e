-- Both laws of records, at what was read.
use Rattle.std.proofs.Common.{option_map, subst}
use Rattle.byte_text.specs.Reading.{Gives}
use Rattle.play_save.specs.Views.{entry_and_rest}
use Rattle.play_save.proofs.RecordLaws.{record_again, end_again}
use Rattle.play_save.proofs.NextRecord.{record_found, record_refused}
use Rattle.play_save.proofs.record.next_record.Goals as goal

pub returns-clause-found : goal.returns-clause-found
returns-clause-found c = record_found c.args.bytes.now c.read_record.result c.read_record.ensures

pub returns-clause-only : goal.returns-clause-only
returns-clause-only c = λ e rest h.
    subst (Gives (option_map entry_and_rest) c.read_record.result) (record_again c.args.bytes.now e rest h) c.read_record.ensures

pub returns-clause-end : goal.returns-clause-end
returns-clause-end c = λ are.
    subst (Gives (option_map entry_and_rest) c.read_record.result) (end_again c.args.bytes.now are) c.read_record.ensures

pub returns-clause-fault : goal.returns-clause-fault
returns-clause-fault c = record_refused c.args.bytes.now c.read_record.result c.read_record.ensures
