use Rattle.std.proofs.lemmas.Grind.{common_steps}
-- Each way out of the loop gives what is needed of the text, and each record that is taken leaves the same to read.
use Rattle.std.proofs.Common.{arith}
use Rattle.std.proofs.lemmas.Bool.Decides.{nat_tests}
use Rattle.std.proofs.Common.{◌≡◌, false, true, Some, None, Ok, rules, inr}
use Rattle.std.proofs.lemmas.Result.{err_from_is_err_and}
use Rattle.play_save.specs.declared.fault.LoadFault.TheVariants.{Missing}
use Rattle.play_save.specs.Records.{record_at}
use Rattle.play_save.specs.Views.{entry_of}
use Rattle.play_save.specs.SaveTexts.{saves_of}
use Rattle.play_save.specs.FirstFaults.{is_complete, records_of}
use Rattle.play_save.specs.Inner.Taking.{met_of}
use Rattle.play_midend.proofs.OptionSteps.{error_of_none}
use Rattle.play_save.proofs.RecordLaws.{record_shorter}
use Rattle.play_save.proofs.Counting.{playable}
use Rattle.play_save.proofs.ReadingOn.{reads_all, reads_done, reads_end, reads_broken, reads_fault, reads_more}
use Rattle.play_save.proofs.loading.find.Goals as goal

pub loop-rest-init : goal.loop-rest-init
loop-rest-init g c = rw c.new-met.ensures (reads_all (saves_of g.P.Rules g.P.Game) c.args.bytes.now)

pub returns-in_err-next_record-clause-given : goal.returns-in_err-next_record-clause-given
returns-in_err-next_record-clause-given g c =
    let undone : is_complete (met_of c.loop-rest.met) ≡ false = search rules in
    let (fault, is, same) = err_from_is_err_and c.from_residual.result c.from_residual.ensures.1 in
    rw (is, same) (inr (reads_broken c.loop-rest.invariant undone c.in_err-next_record.ensures.value))

pub returns-in_err-record-clause-given : goal.returns-in_err-record-clause-given
returns-in_err-record-clause-given g c =
    let undone : is_complete (met_of c.loop-rest.met) ≡ false = search rules in
    let none = c.in_err-record.ensures.ok_part in
    let read : record_at c.loop-rest.rest.now ≡ Ok None =
    rw none at c.in_ok-next_record.ensures.value in
    let missing =
    error_of_none c.in_ok-next_record.field-0 c.in_err-record.field-0.0 Missing c.in_err-record.ensures.value none in
    let (fault, is, same) = err_from_is_err_and c.from_residual-in_err-record.result c.from_residual-in_err-record.ensures.1 in
    rw (is, same, missing) (inr (reads_end c.loop-rest.invariant undone read))

pub returns-in_err-take-clause-given : goal.returns-in_err-take-clause-given
returns-in_err-take-clause-given g c =
    let undone : is_complete (met_of c.loop-rest.met) ≡ false = search rules in
    let some = c.in_ok-record.ensures.ok_part in
    let read : record_at c.loop-rest.rest.now ≡ Ok (Some (entry_of c.in_ok-record.record, c.in_ok-record.after.now)) =
    rw some at c.in_ok-next_record.ensures.value in
    let (fault, is, same) = err_from_is_err_and c.from_residual-in_err-take.result c.from_residual-in_err-take.ensures.1 in
    let has = rw c.of.ensures at c.in_err-take.ensures in
    rw (is, same) (reads_fault c.in_err-take.field-0.0 c.loop-rest.invariant undone read has)

pub loop-rest-smaller : goal.loop-rest-smaller
loop-rest-smaller g c = grind (arith, nat_tests, common_steps, record_shorter)

pub loop-rest-preserved : goal.loop-rest-preserved
loop-rest-preserved g c =
    let undone : is_complete (met_of c.loop-rest.met) ≡ false = search rules in
    let some = c.in_ok-record.ensures.ok_part in
    let read : record_at c.loop-rest.rest.now ≡ Ok (Some (entry_of c.in_ok-record.record, c.in_ok-record.after.now)) =
    rw some at c.in_ok-next_record.ensures.value in
    let taken = rw c.of.ensures at c.in_ok-take.ensures in
    reads_more c.loop-rest.invariant undone read taken.0 taken.1

pub returns-clause-given : goal.returns-clause-given
returns-clause-given g c =
    let complete : is_complete (met_of c.loop-rest.met) ≡ true = search rules in
    reads_done c.loop-rest.invariant complete

pub returns-clause-playable : goal.returns-clause-playable
returns-clause-playable g c =
    let complete : is_complete (met_of c.loop-rest.met) ≡ true = search rules in
    let all = reads_done c.loop-rest.invariant complete in
    playable (saves_of g.P.Rules g.P.Game) (records_of c.args.bytes.now) (met_of c.loop-rest.met) all
