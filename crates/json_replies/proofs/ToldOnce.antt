-- One line of an object tells one reply.
use Rattle.std.proofs.Common.{◌≡◌, ℕ, Bool, false, true≢false, List, [], ◌∷◌, map, codes, ◌++◌, bytes_eq, Option, Some, None, Ok, Err, refl, sym, ap, ap₂, subst, ◌∙◌, inl, inr, append_assoc}
use Rattle.std.proofs.lemmas.List.{append_cancel_right}
use Rattle.std.proofs.lemmas.Str.{encodes_same}
use Rattle.byte_text.specs.Bytes.{line_feed}
use Rattle.serde_json.specs.Data.{Data, string, object, no_members, member}
use Rattle.serde_json.specs.Read.{read}
use Rattle.serde_json.specs.View.{items_of}
use Rattle.serde_json.specs.Written.{compact_text}
use Rattle.serde_json.proofs.OnLiterals.{serde_json_on_literals}
use Rattle.play_midend.specs.Histories.{History}
use Rattle.line_replies.specs.GameFacts.{GameFacts}
use Rattle.line_replies.specs.Lines.{Line}
use Rattle.line_replies.specs.Replies.{refusal_line}
use Rattle.line_replies.specs.RunLaws.{PicturesAreWholeLines, described_line}
use Rattle.line_replies.specs.WholeLines.{AreWholeLines}
use Rattle.line_replies.proofs.WholeReplies.{answers_are_whole}
use Rattle.json_replies.specs.declared.further_line.FurtherLine.TheVariants.{Board, Completable, Hint, HintMarks, Grade, Solutions, Spare, SpareBy}
use Rattle.json_replies.specs.Texts.{latin_text, text_data, lines_of, lines_text}
use Rattle.json_replies.specs.ObjectLines.{IsLineOfData, lost_line}
use Rattle.json_replies.specs.Replies.{Answer, answer_name, answer_text, name_data, reply_data}
use Rattle.json_replies.specs.Sessions.{session_data}
use Rattle.json_replies.specs.BeginRefusals.{begin_refusal_name}
use Rattle.json_replies.specs.JsonReplies.{AnswerGives}
use Rattle.json_replies.specs.FurtherLines.{BoardFacts, Further, IsFurtherLine}
use Rattle.json_replies.specs.ReplyLaws.{ObjectsTellOneReply, ObjectsAreNotLost}
use Rattle.json_replies.proofs.WholeReplies.{lines_are_the_reply}

-- a line is the line of one object only
one_object : (d e : Data) (bytes : List ℕ) → IsLineOfData d bytes → IsLineOfData e bytes → d ≡ e
one_object d e bytes one other =
    let same : compact_text d ≡ compact_text e =
    append_cancel_right (compact_text d) (compact_text e) (line_feed ∷ []) (sym one.text ∙ other.text) in
    let both : Some d ≡ Some e = sym one.reads ∙ ap read same ∙ other.reads in
    cc both

-- lists of bytes that have the same texts are the same
items_same : (xs ys : List (List ℕ)) → items_of (map text_data xs) ≡ items_of (map text_data ys) → xs ≡ ys
items_same [] [] is = refl
items_same [] (y ∷ ys) is = absurd (cc is)
items_same (x ∷ xs) [] is = absurd (cc is)
items_same (x ∷ xs) (y ∷ ys) is =
    let first : latin_text x ≡ latin_text y = cc is in
    let later : items_of (map text_data xs) ≡ items_of (map text_data ys) = cc is in
    ap₂ (λ a l. a ∷ l) (encodes_same x y first) (items_same xs ys later)

-- names of refusals that are told alike are the same
names_same : (a b : Option (List ℕ)) → name_data a ≡ name_data b → a ≡ b
names_same None None is = refl
names_same None (Some b) is = absurd (cc is)
names_same (Some a) None is = absurd (cc is)
names_same (Some a) (Some b) is = let texts : latin_text a ≡ latin_text b = cc is in ap Some (encodes_same a b texts)

-- a refusal is told by a whole line
refusal_whole : (name : List ℕ) → AreWholeLines (refusal_line name)
refusal_whole name = inr (codes "refused: " ++ name, sym (append_assoc (codes "refused: ") name (line_feed ∷ [])))

-- the text of an answer is whole lines
answer_whole : {P : Type 0} (f : GameFacts P) (b : BoardFacts P) → PicturesAreWholeLines f.drawing → (old : Option (History P)) (line : Line)
    (answer : Answer P) → AnswerGives f b old line answer → AreWholeLines (answer_text answer)
answer_whole f b drawn old line (Ok outcome) (inl (begun, is, (params, p, asked, gives))) =
    answers_are_whole f drawn old (described_line f params p) outcome gives
answer_whole f b drawn old line (Ok outcome) (inr (other, gives)) = answers_are_whole f drawn old line outcome gives
answer_whole f b drawn old line (Err refusal) gives = refusal_whole (begin_refusal_name refusal)

pub objects_tell_one_reply : {P : Type 0} (f : GameFacts P) (b : BoardFacts P) → ObjectsTellOneReply f b
objects_tell_one_reply f b drawn old before line earlier one other new last bytes gives answers tells says =
    let said = answer_text one in
    let told = answer_text other in
    let is : reply_data (answer_name one) said (session_data f new) ≡ reply_data (answer_name other) told (session_data f last) =
    one_object _ _ bytes tells says in
    let names : name_data (answer_name one) ≡ name_data (answer_name other) = cc is in
    let items : items_of (map text_data (lines_of said)) ≡ items_of (map text_data (lines_of told)) = cc is in
    let sessions : session_data f new ≡ session_data f last = cc is in (
      sym (lines_are_the_reply said (answer_whole f b drawn old line one gives))
          ∙ ap lines_text (items_same (lines_of said) (lines_of told) items)
          ∙ lines_are_the_reply told (answer_whole f b drawn before earlier other answers),
      names_same (answer_name one) (answer_name other) names,
      sessions,
    )

-- the object that tells of a want of memory
abbrev lost_data : Data
lost_data = object (member (codes "lost") (string (codes "OutOfMemory")) no_members)

lost_is_line : IsLineOfData lost_data lost_line
unfolding serde_json_on_literals
lost_is_line = record { text = refl; reads = refl }

-- whether the first key of an object is `lost`
abbrev has_lost : Data → Bool
has_lost (object (member k d ms)) = bytes_eq k (codes "lost")
has_lost _ = false

-- data whose first key isn't `lost` aren't told by the line of a lost object
not_lost : (d : Data) (bytes : List ℕ) → IsLineOfData d bytes → has_lost d ≡ false → bytes ≡ lost_line → ⊥
not_lost d bytes told other lost =
    let is = one_object d lost_data lost_line (subst (IsLineOfData d) lost told) lost_is_line in
    true≢false (sym (ap has_lost is) ∙ other)

-- no answer to a line beside the commands is told by the line of a lost object
further_not_lost : {P : Type 0} (f : GameFacts P) (b : BoardFacts P) (asked : Further) (new : Option (History P)) (bytes : List ℕ)
    → IsFurtherLine f b asked new bytes → bytes ≡ lost_line → ⊥
further_not_lost f b asked None bytes told lost = not_lost _ bytes told refl lost
further_not_lost f b (Err refusal) (Some h) bytes told lost = not_lost _ bytes told refl lost
further_not_lost f b (Ok Board) (Some h) bytes (answer, is, line) lost = not_lost _ bytes line refl lost
further_not_lost f b (Ok Completable) (Some h) bytes (answer, is, line) lost = not_lost _ bytes line refl lost
further_not_lost f b (Ok Hint) (Some h) bytes (answer, is, line) lost = not_lost _ bytes line refl lost
further_not_lost f b (Ok HintMarks) (Some h) bytes (answer, is, line) lost = not_lost _ bytes line refl lost
further_not_lost f b (Ok Grade) (Some h) bytes (answer, is, line) lost = not_lost _ bytes line refl lost
further_not_lost f b (Ok Solutions) (Some h) bytes (answer, is, line) lost = not_lost _ bytes line refl lost
further_not_lost f b (Ok Spare) (Some h) bytes (answer, is, line) lost = not_lost _ bytes line refl lost
further_not_lost f b (Ok (SpareBy grade)) (Some h) bytes (answer, is, line) lost = not_lost _ bytes line refl lost

pub objects_are_not_lost : {P : Type 0} (f : GameFacts P) (b : BoardFacts P) → ObjectsAreNotLost f b
objects_are_not_lost f b =
    record { replies = λ answer new bytes told. not_lost _ bytes told refl; answers = further_not_lost f b }
