use Rattle.play_save.specs.Keys.{keys}
use Rattle.play_save.specs.Written.{key_records}
use Rattle.play_save.proofs.WrittenLists.{key_more}
use Rattle.play_save.proofs.saving.put_values.Goals as goal

pub loop-key-preserved : goal.loop-key-preserved
loop-key-preserved g c =
    key_more (key_records g.P.Game.title c.args.desc.now c.args.session.now) keys c.loop-key.key-index _ _ _ _ c.loop-key-test.true
    c.loop-key.invariant c.in_ok-put_key.ensures
