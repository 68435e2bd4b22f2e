-- A line `fair` and three words is read as these words, and a line `item` as its numbers.
use Rattle.std.proofs.Common.{◌≡◌, ◌≢◌, ℕ, ◌≤◌, ◌==◌, true, false, not, List, [], ◌∷◌, ◌++◌, length, Some, is_none, refl, ap, ◌∙◌, arith}
use Rattle.std.specs.Fmt.{decimal}
use Rattle.std.proofs.lemmas.Bool.{and_from}
use Rattle.std.proofs.lemmas.Bool.Decides.{nat_tests}
use Rattle.byte_text.specs.Bytes.{space, comma}
use Rattle.byte_text.proofs.CutLaws.{before_at, behind_at, behind_none_in}
use Rattle.byte_text.specs.Cuts.{Lacks, behind}
use Rattle.byte_text.proofs.DecimalLaws.{number_again, lacks_decimal}
use Rattle.line_replies.specs.Lines.{Line}
use Rattle.json_replies.specs.declared.begin_line.BeginLine.TheVariants.{Fair}
use Rattle.json_replies.specs.declared.fair_words.FairWords.{FairWords}
use Rattle.json_replies.specs.declared.item_words.ItemNumbers.{ItemNumbers}
use Rattle.json_replies.specs.declared.item_words.ItemNumbers.TheVariants.{Place, Sign}
use Rattle.json_replies.specs.BeginLines.{IsItemText, ItemLinesAsk, begin_at, item_at}
use Rattle.json_replies.specs.FairLines.{IsWord, IsFairLine, is_word}

-- a text that has bytes isn't of length 0
full_word : (text : List ℕ) → text ≢ [] → not (length text == 0) ≡ true
full_word [] some = absurd (some refl)
full_word (b ∷ bs) some = let is : (length (b ∷ bs) == 0) ≡ false = grind (arith, nat_tests) in ap not is

-- a word passes the test of one
word_again : (text : List ℕ) → IsWord text → is_word text ≡ true
word_again text (some, lacks) =
    and_from (not (length text == 0)) (is_none (behind space text)) (full_word text some)
    (ap is_none (behind_none_in space text lacks))

-- a line `fair` and three words is read as these words
pub fair_again : (line : Line) (words : FairWords (List ℕ)) → IsFairLine words line → begin_at line ≡ Some (Fair words)
fair_again line words is =
    let rest = words.grade ++ space ∷ words.seed in
    ap begin_at is.spelled ∙ rw (
      behind_at space words.size rest is.size.1,
      before_at space words.size rest is.size.1,
      behind_at space words.grade words.seed is.grade.1,
      before_at space words.grade words.seed is.grade.1,
      word_again words.size is.size,
      word_again words.grade is.grade,
      word_again words.seed is.seed,
    ) refl

-- the decimal of a number has no comma
lacks_last : (n : ℕ) → n ≤ 255 → Lacks comma (decimal n)
lacks_last n small = lacks_decimal comma n (omega arith) refl

-- the text of some numbers is read as these numbers
item_again : (numbers : ItemNumbers) (text : List ℕ) → IsItemText numbers text → item_at text ≡ Some numbers
item_again (Place x y n) text (small, (rest, (xs, is, lacks, at), (ys, more, none, so))) =
    let last = decimal n in
    rw (
      is,
      behind_at comma xs rest lacks,
      before_at comma xs rest lacks,
      more,
      behind_at comma ys last none,
      before_at comma ys last none,
      behind_none_in comma last (lacks_last n small),
      at,
      so,
      number_again 255 n small (omega arith),
    ) refl
item_again (Sign x y u v n) text
    (small, (rest, last, more, (xs, is, lacks, at), (ys, second, none, so), (us, third, free, on), (vs, fourth, bare, by))) =
    let end = decimal n in
    rw (
      is,
      behind_at comma xs rest lacks,
      before_at comma xs rest lacks,
      second,
      behind_at comma ys last none,
      before_at comma ys last none,
      third,
      behind_at comma us more free,
      before_at comma us more free,
      fourth,
      behind_at comma vs end bare,
      before_at comma vs end bare,
      at,
      so,
      on,
      by,
      number_again 255 n small (omega arith),
    ) refl

-- `item ` and the text of some numbers ask for these numbers
pub item_lines_ask : ItemLinesAsk
item_lines_ask numbers text spelled = rw (item_again numbers text spelled) refl
