-- Parameters: a text that is read is the one written of what was read, and what is written is read.
use Rattle.std.proofs.lemmas.Bool.Decides.{nat_tests}
use Rattle.std.proofs.Common.{◌≡◌, ℕ, Bool, true, false, ◌==◌, List, ◌∷◌, Option, Some, None, IfSome, Result, Ok, Err, IfOk, refl, sym, subst, arith}
use Rattle.std.specs.List.{Contains, list_any, slice_index_or}
use Rattle.std.proofs.lemmas.List.Folds.{Any-from_list_any, list_any_at}
use Rattle.std.proofs.lemmas.Bool.{eqb-true, eq-eqb}
use Rattle.byte_text.specs.Decimals.{begins_digit}
use Rattle.byte_text.specs.Bytes.{letter_d}
use Rattle.game_texts.specs.declared.id_fault.IdFault.{IdFault}
use Rattle.game_texts.specs.declared.params.Params.{Params}
use Rattle.game_texts.specs.Parameters.{letter_part, params_text, IsParamText, letter_at, behind_size, params_at}
use Rattle.game_texts.specs.Laws.Refusals.{refused_then, refused_else}

contains_from_any : (letters : List ℕ) (letter : ℕ) → list_any (λ l. l == letter) letters ≡ true → Contains letters letter
contains_from_any letters letter found =
    let (place, byte, inside, here, passes) = Any-from_list_any (λ l. l == letter) letters found in
    (place, inside, subst (λ l. slice_index_or letters place l ≡ l) (eqb-true byte letter passes) here)

any_from_contains : (letters : List ℕ) (letter : ℕ) → Contains letters letter → list_any (λ l. l == letter) letters ≡ true
any_from_contains letters letter (place, inside, here) =
    list_any_at (λ l. l == letter) letters place letter inside (eq-eqb (slice_index_or letters place letter) letter here)

-- the parameters p have the size w, and bs is the text of their letter
abbrev Reads : List ℕ → ℕ → List ℕ → Params → Type 0
Reads letters w bs p = (p.size ≡ w) × IfSome p.letter (λ letter. Contains letters letter) × (bs ≡ letter_part p.letter)

letter_taken : (letters : List ℕ) (w : ℕ) (bs : List ℕ) (p : Params) → letter_at letters w bs ≡ Ok p → Reads letters w (letter_d ∷ bs) p
letter_taken letters w bs p = grind (arith, nat_tests, refused_else, contains_from_any)

size_taken : (letters : List ℕ) (has_adjacent : Bool) (w : ℕ) (bs : List ℕ) (p : Params)
    → behind_size letters has_adjacent w bs ≡ Ok p → Reads letters w bs p
size_taken letters has_adjacent w bs p = grind (arith, nat_tests, refused_then, refused_else, letter_taken)

-- a text that is read as parameters is one by the grammar, of those that were read
pub params_taken : (letters : List ℕ) (has_adjacent : Bool) (text : List ℕ) (p : Params)
    → params_at letters has_adjacent text ≡ Ok p → IsParamText letters p text
unfolding params_at
params_taken letters has_adjacent text p = grind (arith, nat_tests, refused_else, size_taken)

pub params_found : (letters : List ℕ) (has_adjacent : Bool) (text : List ℕ) (answer : Result Params IdFault)
    → answer ≡ params_at letters has_adjacent text → IfOk answer (λ p. IsParamText letters p text)
params_found letters has_adjacent text (Ok p) is = params_taken letters has_adjacent text p (sym is)
params_found letters has_adjacent text (Err e) is = tt

-- `d` and a letter of the game, or nothing, is read as that letter or none, and not as an adjacent mode
letters_again : (letters : List ℕ) (has_adjacent : Bool) (w : ℕ) (letter : Option ℕ) → IfSome letter (λ l. Contains letters l)
    → behind_size letters has_adjacent w (letter_part letter) ≡ Ok (record { size = w; letter = letter })
letters_again letters has_adjacent w letter member = grind (arith, nat_tests, any_from_contains)

letter_part_begins : (letter : Option ℕ) → begins_digit (letter_part letter) ≡ false
letter_part_begins None = refl
letter_part_begins (Some letter) = refl

-- a text that is one by the grammar is read as the parameters that it spells
pub params_again : (letters : List ℕ) (has_adjacent : Bool) (text : List ℕ) (p : Params) → IsParamText letters p text
    → params_at letters has_adjacent text ≡ Ok p
unfolding params_at
params_again letters has_adjacent text p h = grind (arith, nat_tests, letter_part_begins, letters_again)

-- parameters are told apart by their texts
pub same_params : (p q : Params) → params_text p ≡ params_text q → p ≡ q
same_params p q text = grind (arith, nat_tests)
