-- The letters of fair games.
use Rattle.std.proofs.Common.{◌≡◌, ℕ, List, [], ◌∷◌, codes, Contains, Option, Some, refl, sym, ◌∙◌, subst, arith}
use Rattle.line_steps.specs.declared.grade.Grade.{Grade}
use Rattle.line_steps.specs.declared.grade.Grade.TheVariants.{Latin, Easy, Hard}
use Rattle.fair_games.specs.Letters.{towers_letter, unequal_letter}
use Rattle.json_replies.specs.FairLines.{AreFairLetters, letter_at}

-- the code is one of the letters, and the grade's alone
abbrev IsOwn : List ℕ → (Grade → Option ℕ) → Grade → ℕ → Type 0
IsOwn letters letter grade code = Contains letters code × (letter_at letter (code ∷ []) ≡ Some grade)

-- if one code is the grade's own, a code equal to it is so, too
same_own : (letters : List ℕ) (letter : Grade → Option ℕ) (grade : Grade) (own code : ℕ) → IsOwn letters letter grade own
    → Some own ≡ Some code → IsOwn letters letter grade code
same_own letters letter grade own code owns is =
    let same : own ≡ code = cc is in subst (IsOwn letters letter grade) same owns

-- where each grade's letter is its own, they are letters of fair games
all_own : (letters : List ℕ) (letter : Grade → Option ℕ)
    → ((grade : Grade) (code : ℕ) → letter grade ≡ Some code → IsOwn letters letter grade code) → AreFairLetters letters letter
all_own letters letter own = record {
  known = λ grade code is. (own grade code is).0;
  apart = λ one other code is so.
      let both : Some one ≡ Some other = sym (own one code is).1 ∙ (own other code so).1 in
      cc both;
}

pub towers_fair : AreFairLetters (codes "ehxu") towers_letter
towers_fair = all_own (codes "ehxu") towers_letter own
  where
    own : (grade : Grade) (code : ℕ) → towers_letter grade ≡ Some code → IsOwn (codes "ehxu") towers_letter grade code
    own Latin code is = absurd (cc is)
    own Easy code is = same_own (codes "ehxu") towers_letter Easy 101 code ((0, omega arith, refl), refl) is
    own Hard code is = same_own (codes "ehxu") towers_letter Hard 104 code ((1, omega arith, refl), refl) is

pub unequal_fair : AreFairLetters (codes "tekxr") unequal_letter
unequal_fair = all_own (codes "tekxr") unequal_letter own
  where
    own : (grade : Grade) (code : ℕ) → unequal_letter grade ≡ Some code → IsOwn (codes "tekxr") unequal_letter grade code
    own Latin code is = same_own (codes "tekxr") unequal_letter Latin 116 code ((0, omega arith, refl), refl) is
    own Easy code is = same_own (codes "tekxr") unequal_letter Easy 101 code ((1, omega arith, refl), refl) is
    own Hard code is = same_own (codes "tekxr") unequal_letter Hard 107 code ((2, omega arith, refl), refl) is
