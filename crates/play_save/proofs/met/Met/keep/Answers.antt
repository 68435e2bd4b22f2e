-- One more record is kept, and the counts are those that stand there.
use Rattle.std.proofs.Common.{map}
use Rattle.play_save.specs.declared.key.WhichCount.TheVariants.{States, Position}
use Rattle.play_save.specs.declared.met.HeaderRecord.{HeaderRecord}
use Rattle.play_save.specs.Inner.Taking.{state_of}
use Rattle.play_save.proofs.Meeting.{kept_added, count_kept}
use Rattle.play_save.proofs.met.Met.keep.Goals as goal

pub returns-clause-ok : goal.returns-clause-ok
returns-clause-ok c =
    let states = map state_of c.args.self.now.states.items in
    kept_added c.args.self.now.headers.items c.push.new.self.items (record { key = c.args.key; value = c.args.value }) states
    c.in_ok-push.ensures.items c.requires.first

pub invariant_of-self-2 : goal.invariant_of-self-2
invariant_of-self-2 c =
    let old = c.args.self.now in
    let kept : HeaderRecord = record { key = c.args.key; value = c.args.value } in
    let items = c.in_ok-push.ensures.items in
    record {
      count_read =
          count_kept old.headers.items c.push.new.self.items kept States c.args.number old.count c.count_after-self.result
          items c.requires.first c.requires.number old.count_read c.count_after-self.ensures;
      position_read =
          count_kept old.headers.items c.push.new.self.items kept Position c.args.number old.position c.count_after-self-2.result
          items c.requires.first c.requires.number old.position_read c.count_after-self-2.ensures;
    }
