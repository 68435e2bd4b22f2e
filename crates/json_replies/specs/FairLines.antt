-- The line `fair SIZE GRADE SEED`: its words, and what they ask for.
use Rattle.std.specs.Prelude.{◌≡◌, ◌≢◌, ℕ, ◌≤◌, ◌==◌, Bool, true, false, not, ◌&&◌, if◌then◌else◌, Contains}
use Rattle.std.specs.Prelude.{List, [], ◌∷◌, ◌++◌, length, codes, Option, Some, None, is_none, Result, Ok, Err}
use denote.Ref.{Bor}
use Rattle.byte_text.specs.Bytes.{space, digit}
use Rattle.byte_text.specs.Cuts.{Lacks, behind}
use Rattle.byte_text.specs.Decimals.{decimal_value}
use Rattle.game_texts.specs.GameIds.{largest_seed}
use Rattle.line_steps.specs.declared.grade.Grade.{Grade}
use Rattle.line_steps.specs.declared.grade.Grade.TheVariants.{Latin, Easy, Hard}
use Rattle.fair_games.specs.Offers.{is_offered}
use Rattle.line_replies.specs.Lines.{Line}
use Rattle.json_replies.specs.declared.fair_words.FairWords.{FairWords}
use Rattle.json_replies.specs.declared.fair_request.FairRequest.{FairRequest}
use Rattle.json_replies.specs.declared.begin_refusal.BeginRefusal.{BeginRefusal}
use Rattle.json_replies.specs.declared.begin_refusal.BeginRefusal.TheVariants.{BadSize, BadLetter, BadSeed}

-- the three words themselves in place of loans of them
abbrev pub words_copied : {X : Type 0} → FairWords (Bor X) → FairWords X
words_copied words = record { size = words.size.now; grade = words.grade.now; seed = words.seed.now }

-- a word has bytes, and no space among them
abbrev pub IsWord : List ℕ → Type 0
IsWord text = (text ≢ []) × Lacks space text

-- whether a text is a word
abbrev pub is_word : List ℕ → Bool
is_word text = not (length text == 0) && is_none (behind space text)

-- the word that a text is, if it is one
abbrev pub one_word_at : List ℕ → Option (List ℕ)
one_word_at text = if is_word text then Some text else None

-- the line is `fair` and these words, with one space between each
pub record IsFairLine (words : FairWords (List ℕ)) (line : Line) : Type 0 where
  pub spelled : line ≡ Some (codes "fair " ++ words.size ++ space ∷ (words.grade ++ space ∷ words.seed))
  pub size : IsWord words.size
  pub grade : IsWord words.grade
  pub seed : IsWord words.seed

-- the word is the digit of a size
abbrev pub IsSizeWord : ℕ → List ℕ → Type 0
IsSizeWord w word = (3 ≤ w) × (w ≤ 9) × (word ≡ digit w ∷ [])

-- the word is the letter of a grade that fair games of the size have
abbrev pub IsGradeWord : (Grade → Option ℕ) → ℕ → Grade → List ℕ → Type 0
IsGradeWord letter w grade word =
    (code : ℕ) × (letter grade ≡ Some code) × (is_offered w (letter grade) grade ≡ true) × (word ≡ code ∷ [])

-- the word is read as the seed of an ID is
abbrev pub IsSeedWord : ℕ → List ℕ → Type 0
IsSeedWord seed word = decimal_value largest_seed word ≡ Some seed

-- the words ask for this game, or are refused for the first of them that is wrong
abbrev pub IsAsked : (Grade → Option ℕ) → FairWords (List ℕ) → Result FairRequest BeginRefusal → Type 0
IsAsked letter words (Ok r) =
    IsSizeWord r.size words.size × IsGradeWord letter r.size r.grade words.grade × IsSeedWord r.seed words.seed
IsAsked letter words (Err BadSize) = (w : ℕ) → IsSizeWord w words.size → ⊥
IsAsked letter words (Err BadLetter) =
    (w : ℕ) × IsSizeWord w words.size × ((grade : Grade) → IsGradeWord letter w grade words.grade → ⊥)
IsAsked letter words (Err BadSeed) =
    (w : ℕ) × (grade : Grade) × IsSizeWord w words.size × IsGradeWord letter w grade words.grade
    × ((seed : ℕ) → IsSeedWord seed words.seed → ⊥)
IsAsked letter words (Err refusal) = ⊥

-- the letters of a game's fair games are among its letters, and no two grades have the same
pub record AreFairLetters (letters : List ℕ) (letter : Grade → Option ℕ) : Type 0 where
  pub known : (grade : Grade) (code : ℕ) → letter grade ≡ Some code → Contains letters code
  pub apart : (one other : Grade) (code : ℕ) → letter one ≡ Some code → letter other ≡ Some code → one ≡ other

-- whether the word is the letter of a grade, if the grade has one
abbrev pub is_letter : Option ℕ → List ℕ → Bool
is_letter (Some own) (b ∷ []) = own == b
is_letter own word = false

-- the grade of which a word is the letter
abbrev pub letter_at : (Grade → Option ℕ) → List ℕ → Option Grade
letter_at letter word =
    if is_letter (letter Latin) word then Some Latin
    else (if is_letter (letter Easy) word then Some Easy
    else (if is_letter (letter Hard) word then Some Hard else None))
