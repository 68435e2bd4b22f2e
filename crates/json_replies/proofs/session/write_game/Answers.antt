use Rattle.std.proofs.Common.{refl, ap, ◌∙◌}
use Rattle.serde_json.specs.Data.{string}
use Rattle.line_replies.specs.BoardTexts.{status_word}
use Rattle.json_replies.specs.Counts.{count_data}
use Rattle.json_replies.specs.Texts.{text_data}
use Rattle.json_replies.proofs.WrittenData.{object_follows, more_members, key_follows, member_is}
use Rattle.json_replies.proofs.session.write_game.Goals as goal

pub returns : goal.returns
returns g c =
    object_follows _ refl c.in_ok-begin_object.ensures
    (more_members (member_is (ap string c.name.ensures) c.in_ok-write_word_at.ensures)
    (more_members (member_is (ap text_data (c.deref.ensures.value ∙ c.in_ok-id.ensures))
    (key_follows c.in_ok-key.ensures c.in_ok-write_text.ensures))
    (more_members c.in_ok-write_position.ensures
    (more_members (member_is (ap count_data c.states.ensures) c.in_ok-write_number_at.ensures)
    (member_is (ap string (c.status_word-status.ensures.word ∙ ap status_word c.board.ensures.shown)) c.in_ok-write_word_at-2.ensures)))))
    c.in_ok-end_object.ensures
