use Rattle.std.proofs.Common.{refl, ◌∙◌}
use Rattle.std.specs.Option.{option_copied}
use Rattle.line_replies.specs.GameFacts.{facts_of}
use Rattle.json_replies.specs.Laws.Spellings.{name_fits, lines_fit}
use Rattle.json_replies.proofs.Spellings.{session_fits}
use Rattle.json_replies.proofs.WrittenData.{object_follows, more_members, key_follows}
use Rattle.json_replies.proofs.ObjectLines.{line_of}
use Rattle.json_replies.proofs.object_line.reply_line.Goals as goal

pub returns : goal.returns
returns g c =
    line_of (c.new-writer.ensures.before ∙ c.in_ok-with_capacity.ensures.items) c.new-writer.ensures.tokens
    (object_follows _ refl c.in_ok-begin_object.ensures
    (more_members c.in_ok-write_said.ensures (key_follows c.in_ok-key.ensures c.in_ok-write_session.ensures))
    c.in_ok-end_object.ensures)
    c.in_ok-ended.ensures.text c.in_ok-ended.ensures.reads_back (
      name_fits 7 (option_copied c.args.refused),
      (
        lines_fit 6 c.args.reply.now,
        (session_fits (facts_of g.P.Rules g.P.Game g.P.Draw) c.args.session.now, tt),
      ),
    )
