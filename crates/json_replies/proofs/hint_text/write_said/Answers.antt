use Rattle.std.proofs.Common.{ap}
use Rattle.serde_json.specs.Data.{string}
use Rattle.json_replies.proofs.WrittenData.{member_is, more_members}
use Rattle.json_replies.proofs.hint_text.write_said.Goals as goal

pub returns : goal.returns
returns c =
    let from = member_is (ap string c.word.ensures) c.in_ok-write_word_at-2.ensures in
    more_members c.in_ok-write_word_at.ensures (more_members c.in_ok-write_number_at.ensures (more_members from
    (more_members c.in_ok-write_word_at-3.ensures (more_members c.in_ok-write_groups_at.ensures
    (more_members c.in_ok-write_word_at-4.ensures (more_members c.in_ok-write_number_at-2.ensures (more_members c.in_ok-write_word_at-5.ensures c.in_ok-write_number_at-3.ensures)))))))
