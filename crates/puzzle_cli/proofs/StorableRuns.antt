-- A run that begins with a session that can be stored, or with none, ends so, in any format.
use Rattle.std.proofs.Common.{ℕ, List, [], ◌∷◌, Bool, Option, sym, subst, inl, inr}
use Rattle.play_midend.specs.Histories.{History}
use Rattle.needed_items.proofs.ItemLaws.{ItemLaws}
use Rattle.puzzle_cli.specs.declared.run_end.End.{End}
use Rattle.puzzle_cli.specs.declared.run_end.End.TheVariants.{Finished, ReadFault, WriteFault}
use Rattle.line_replies.specs.Lines.{Line, ReplyRule}
use Rattle.line_replies.specs.GameFacts.{GameFacts}
use Rattle.line_replies.specs.Formats.{LeavesAsAnswers}
use Rattle.puzzle_cli.specs.Runs.{Point, Ends}
use Rattle.line_replies.specs.InTurn.{RepliesInTurn}
use Rattle.line_replies.specs.RunLaws.{IsNoneOrStorable}
use Rattle.line_replies.proofs.StorableReplies.{answers_stay_storable}

module _ {P : Type 0} (f : GameFacts P) (laws : ItemLaws f.rules) (reply : ReplyRule (Option (History P))) (leaves : LeavesAsAnswers f reply) where
  -- what a reply leaves is none, or can be stored, if what was before it is none or can be
  reply_storable : (old new : Option (History P)) (line : Line) (bytes : List ℕ) → IsNoneOrStorable f old → reply old line bytes new
      → IsNoneOrStorable f new
  reply_storable old new line bytes s said =
      let (asked, answers) = leaves old new line bytes said in
      let (outcome, gives, left) = answers in
      subst (λ (o : Option (History P)). IsNoneOrStorable f o) (sym left) (answers_stay_storable f laws old asked outcome s gives)

  -- what replies in turn leave is none, or can be stored, if what was before them is none or can be
  in_turn : (lines : List Line) (old new : Option (History P)) (written : List ℕ) → IsNoneOrStorable f old
      → RepliesInTurn reply lines old written new → IsNoneOrStorable f new
  in_turn [] old new written s (w, e) = subst (λ (o : Option (History P)). IsNoneOrStorable f o) (sym e) s
  in_turn (line ∷ lines) old new written s (bytes, mid, rest, said, w, more) =
      in_turn lines mid new rest (reply_storable old mid line bytes s said) more

  -- what a run leaves is none, or can be stored, if what it began with is none or can be
  pub ends_storable : (quit : Line → Bool) (end : End) (old new : Point (Option (History P))) → IsNoneOrStorable f old.answers.session
      → Ends reply quit end old new → IsNoneOrStorable f new.answers.session
  ends_storable quit Finished old new s (r, w, (read, were, inl (all, served))) = in_turn _ old.answers.session new.answers.session served.0 s served.1
  ends_storable quit Finished old new s (r, w, (read, were, inr (has, served))) = in_turn _ old.answers.session new.answers.session served.0 s served.1
  ends_storable quit ReadFault old new s (w, (read, were, why, has, served)) = in_turn _ old.answers.session new.answers.session served.0 s served.1
  ends_storable quit WriteFault old new s (r, w, (read, were, inl (all, b))) =
      reply_storable b.mid.session new.answers.session b.line b.bytes (in_turn _ old.answers.session b.mid.session b.served.0 s b.served.1) b.said
  ends_storable quit WriteFault old new s (r, w, (read, were, inr b)) =
      reply_storable b.mid.session new.answers.session b.line b.bytes (in_turn _ old.answers.session b.mid.session b.served.0 s b.served.1) b.said
