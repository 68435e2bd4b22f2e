-- Game IDs: what is read follows the grammar, what follows it is read, and no reading is refused for memory.
use Rattle.std.proofs.lemmas.Bool.Decides.{nat_tests}
use Rattle.std.specs.Prelude.{◌≡◌, ℕ, ◌≤◌, Bool, false, List, [], ◌∷◌, Option, Some, None, Result, Ok, Err}
use Rattle.byte_text.specs.Decimals.{decimal_value}
use Rattle.game_texts.specs.declared.id_fault.IdFault.{IdFault}
use Rattle.game_texts.specs.declared.game_id.GameId.{GameId}
use Rattle.game_texts.specs.declared.game_id.GameId.TheVariants.{Described, Seeded}
use Rattle.game_texts.specs.declared.params.Params.{Params}
use Rattle.trail_solver.specs.Puzzles.{Puzzle}
use Rattle.game_texts.specs.Parameters.{params_at, IsParams, letter_part, params_text, IsParamText, if_no_more, letter_at, behind_size}
use Rattle.game_texts.specs.GameIds.{is_separator, params_part, from_separator, seeded, behind_params, id_parts_at, with_description, id_at, LacksSeparators, describes_at, IsIdText, IsAnyText, largest_seed}
use Rattle.std.proofs.Common.{◌≡◌, IfOk, ◌≢◌, ℕ, ◌+◌, ◌^◌, ◌<◌, ◌≤◌, Bool, true, false, List, [], ◌∷◌, ◌++◌, Option, Some, None, IfSome, Result, Ok, Err, refl, sym, ap, ◌∙◌, subst, arith, if◌then◌else◌}
use Rattle.std.specs.List.{AllByRecursion, Contains}
use Rattle.std.specs.Fmt.{decimal}
use Rattle.std.proofs.lemmas.Bool.{ne_eqb}
use Rattle.byte_text.proofs.DecimalLaws.{number_taken, number_again}
use Rattle.byte_text.proofs.ReadingLaws.{bind_taken, bind_again}
use Rattle.game_texts.proofs.ParameterLemmas.{params_taken, params_again}
use Rattle.byte_text.specs.Bytes.{digit_zero, colon, hash, exclamation}
use Rattle.game_texts.specs.IdFaults.{NotForMemory}
use Rattle.game_texts.specs.Laws.NotForMemory.{not_for_memory-then, not_for_memory-if}
use Rattle.game_texts.specs.Laws.Refusals.{refused_then}

-- The reading of descriptions and their grammar agree, at each size.
pub record ReadsGrammar (D : Type 0) (desc_at : ℕ → List ℕ → Result D IdFault) (IsDesc : ℕ → D → List ℕ → Type 0) : Type 0 where
  pub taken : (w : ℕ) (desc : List ℕ) (d : D) → 3 ≤ w → w ≤ 9 → desc_at w desc ≡ Ok d → IsDesc w d desc
  pub again : (w : ℕ) (desc : List ℕ) (d : D) → IsDesc w d desc → desc_at w desc ≡ Ok d

-- a text is what stands before its first separator, then this separator, then the rest
split_taken : (bs : List ℕ) (separator : ℕ) (rest : List ℕ) → from_separator bs ≡ separator ∷ rest
    → (bs ≡ params_part bs ++ separator ∷ rest) × (is_separator separator ≡ true)
split_taken [] separator rest = λ found. cc
split_taken (b ∷ bs) separator rest =
    elim (is_separator b) as (λ t. is_separator b ≡ t → (if t then (b ∷ bs) else from_separator bs) ≡ separator ∷ rest → (b ∷ bs ≡ (if t then [] else (b ∷ params_part bs)) ++ separator ∷ rest) × (is_separator separator ≡ true)) [
      | true ↦ λ is found.
          let same : b ≡ separator = cc in
          (found, subst (λ c. is_separator c ≡ true) same is)
      | false ↦ λ other found.
          let more = split_taken bs separator rest found in
          (ap (λ xs. b ∷ xs) more.0, more.1)
    ] refl

-- no byte of the text is a separator
abbrev NoSeparators : List ℕ → Type 0
NoSeparators bs = AllByRecursion (λ b. is_separator b ≡ false) bs

split_again : (front : List ℕ) (separator : ℕ) (rest : List ℕ) → NoSeparators front → is_separator separator ≡ true
    → (params_part (front ++ separator ∷ rest) ≡ front) × (from_separator (front ++ separator ∷ rest) ≡ separator ∷ rest)
split_again [] separator rest none is = (rw is refl, rw is refl)
split_again (b ∷ bs) separator rest none is =
    let more = split_again bs separator rest none.1 is in
    (rw none.0 (ap (λ xs. b ∷ xs) more.0), rw none.0 more.1)

-- the text of parameters has no separator
digit_no_separator : (w : ℕ) → w ≤ 9 → is_separator (digit_zero + w) ≡ false
digit_no_separator w small =
    rw (ne_eqb (digit_zero + w) colon (omega arith), ne_eqb (digit_zero + w) hash (omega arith), ne_eqb (digit_zero + w) exclamation (omega arith)) refl

letter_no_separator : (letters : List ℕ) (letter : Option ℕ) → LacksSeparators letters → IfSome letter (λ l. Contains letters l)
    → NoSeparators (letter_part letter)
letter_no_separator letters letter lacks member = grind (arith, nat_tests)

params_no_separator : (letters : List ℕ) (p : Params) → LacksSeparators letters → IsParams letters p → NoSeparators (params_text p)
params_no_separator letters p lacks params =
    (digit_no_separator p.size params.largest, letter_no_separator letters p.letter lacks params.letter)

-- after the parameters p, bs spells this ID: a separator and a description, or `!` and a seed
abbrev Behind : Params → List ℕ → GameId (List ℕ) → Type 0
Behind p bs (Described q desc) = (q ≡ p) × ((separator : ℕ) × (bs ≡ separator ∷ desc) × (separator ≢ hash) × (separator ≢ exclamation))
Behind p bs (Seeded q seed) = (q ≡ p) × (seed < 2 ^ 64) × (bs ≡ exclamation ∷ decimal seed)

seed_taken : (p : Params) (bs : List ℕ) (seed : Option ℕ) (parts : GameId (List ℕ)) → decimal_value largest_seed bs ≡ seed
    → seeded p seed ≡ Ok parts → Behind p (exclamation ∷ bs) parts
seed_taken p bs seed parts number read = grind (arith, nat_tests, number_taken)

behind_params_taken : (p : Params) (bs : List ℕ) (parts : GameId (List ℕ)) → behind_params p bs ≡ Ok parts → Behind p bs parts
behind_params_taken p bs parts = grind (arith, nat_tests, refused_then, seed_taken)

-- a separator that is neither `#` nor `!` is `:`
colon_left : (b : ℕ) → is_separator b ≡ true → b ≢ hash → b ≢ exclamation → b ≡ colon
colon_left b is not_hash not_exclamation = grind (arith, nat_tests)

parts_text : (letters : List ℕ) (text : List ℕ) (p : Params) (parts : GameId (List ℕ)) → IsParamText letters p (params_part text)
    → Behind p (from_separator text) parts → IsIdText letters IsAnyText parts text
parts_text letters text p (Described q desc) params (same, (separator, stands, not_hash, not_exclamation)) =
    let (split, is) = split_taken text separator desc stands in
    let is_colon = colon_left separator is not_hash not_exclamation in
    let text_is : text ≡ params_text p ++ colon ∷ desc =
    split ∙ (ap (λ xs. xs ++ separator ∷ desc) params.text_is ∙ ap (λ b. params_text p ++ b ∷ desc) is_colon) in
    subst (λ v. IsIdText letters IsAnyText (Described v desc) text) (sym same) (params.params, (desc, text_is, refl))
parts_text letters text p (Seeded q seed) params (same, small, stands) =
    let (split, is) = split_taken text exclamation (decimal seed) stands in
    let text_is : text ≡ params_text p ++ exclamation ∷ decimal seed =
    split ∙ ap (λ xs. xs ++ exclamation ∷ decimal seed) params.text_is in
    subst (λ v. IsIdText letters IsAnyText (Seeded v seed) text) (sym same) (params.params, small, text_is)

pub id_parts_taken : (letters : List ℕ) (has_adjacent : Bool) (text : List ℕ) (parts : GameId (List ℕ))
    → id_parts_at letters has_adjacent text ≡ Ok parts → IsIdText letters IsAnyText parts text
unfolding id_parts_at
id_parts_taken letters has_adjacent text parts read =
    grind (arith, nat_tests, bind_taken, parts_text, params_taken, behind_params_taken)

-- of a text of parameters with a separator after it, these are read, and then what stands from there on
split_params : (letters : List ℕ) (has_adjacent : Bool) (p : Params) (separator : ℕ) (rest : List ℕ) → LacksSeparators letters
    → IsParams letters p → is_separator separator ≡ true
    → id_parts_at letters has_adjacent (params_text p ++ separator ∷ rest) ≡ behind_params p (separator ∷ rest)
unfolding id_parts_at
split_params letters has_adjacent p separator rest lacks params is =
    grind (arith, nat_tests, split_again, params_no_separator, params_again, bind_again)

pub id_parts_again : (letters : List ℕ) (has_adjacent : Bool) (text : List ℕ) (parts : GameId (List ℕ)) → LacksSeparators letters
    → IsIdText letters IsAnyText parts text → id_parts_at letters has_adjacent text ≡ Ok parts
id_parts_again letters has_adjacent text parts lacks h5 = grind (arith, nat_tests, split_params, number_again)

-- once the description is read too, the text is one of the grammar, of the whole ID
with_taken : (D : Type 0) (letters : List ℕ) (desc_at : ℕ → List ℕ → Result D IdFault) (IsDesc : ℕ → D → List ℕ → Type 0)
    (text : List ℕ) (parts : GameId (List ℕ)) (id : GameId D)
    → ReadsGrammar D desc_at IsDesc → IsIdText letters IsAnyText parts text → with_description desc_at parts ≡ Ok id
    → IsIdText letters IsDesc id text
with_taken D letters desc_at IsDesc text parts id reads h8 read = grind (arith, nat_tests, bind_taken)

-- a text that is read as an ID is one by the grammar, of what was read
pub id_taken : (D : Type 0) (letters : List ℕ) (has_adjacent : Bool) (desc_at : ℕ → List ℕ → Result D IdFault)
    (IsDesc : ℕ → D → List ℕ → Type 0) (text : List ℕ) (id : GameId D)
    → ReadsGrammar D desc_at IsDesc → id_at letters has_adjacent desc_at text ≡ Ok id → IsIdText letters IsDesc id text
unfolding id_at
id_taken D letters has_adjacent desc_at IsDesc text id reads read =
    let steps = bind_taken (id_parts_at letters has_adjacent text) (with_description desc_at) id read in
    with_taken D letters desc_at IsDesc text steps.value id reads (id_parts_taken letters has_adjacent text steps.value steps.gives) steps.rest

-- a text that is an ID by the grammar is read as what it spells
pub id_again : (D : Type 0) (letters : List ℕ) (has_adjacent : Bool) (desc_at : ℕ → List ℕ → Result D IdFault)
    (IsDesc : ℕ → D → List ℕ → Type 0) (text : List ℕ) (id : GameId D)
    → LacksSeparators letters → ReadsGrammar D desc_at IsDesc → IsIdText letters IsDesc id text
    → id_at letters has_adjacent desc_at text ≡ Ok id
unfolding id_at
id_again D letters has_adjacent desc_at IsDesc text (Described p d) lacks reads (params, (desc, text_is, describes)) =
    let parts = id_parts_again letters has_adjacent text (Described p desc) lacks (params, (desc, text_is, refl)) in
    let read = reads.again p.size desc d describes in
    bind_again (id_parts_at letters has_adjacent text) (with_description desc_at) (Described p desc) parts
    ∙ bind_again (desc_at p.size desc) (λ v. Ok (Described p v)) d read
id_again D letters has_adjacent desc_at IsDesc text (Seeded p seed) lacks reads h =
    let parts = id_parts_again letters has_adjacent text (Seeded p seed) lacks h in
    bind_again (id_parts_at letters has_adjacent text) (with_description desc_at) (Seeded p seed) parts

-- if the answer of reading is an ID, the text is one of the grammar, of that ID
pub id_found : (D : Type 0) (letters : List ℕ) (has_adjacent : Bool) (desc_at : ℕ → List ℕ → Result D IdFault)
    (IsDesc : ℕ → D → List ℕ → Type 0) (text : List ℕ) (answer : Result (GameId D) IdFault)
    → ReadsGrammar D desc_at IsDesc → answer ≡ id_at letters has_adjacent desc_at text
    → IfOk answer (λ id. IsIdText letters IsDesc id text)
id_found D letters has_adjacent desc_at IsDesc text (Ok id) reads is = id_taken D letters has_adjacent desc_at IsDesc text id reads (sym is)
id_found D letters has_adjacent desc_at IsDesc text (Err e) reads is = tt

-- a game that keeps what `Game` asks of its descriptions reads them as their grammar has them
pub game_reads : (D : Type 0) (puzzle : D → Puzzle) (valid : D → Type 0) (describes : List ℕ → D → Type 0)
    (desc_at : ℕ → List ℕ → Result D IdFault)
    → ((w : ℕ) (text : List ℕ) (d : D) → 3 ≤ w → w ≤ 9 → desc_at w text ≡ Ok d → describes text d × valid d × ((puzzle d).size ≡ w))
    → ((text : List ℕ) (d : D) → valid d → describes text d → desc_at (puzzle d).size text ≡ Ok d)
    → ReadsGrammar D desc_at (describes_at puzzle valid describes)
game_reads D puzzle valid describes desc_at taken again = record {
  taken = λ w text d small large read. taken w text d small large read;
  again = λ w text d (describes, valid, size). subst (λ n. desc_at n text ≡ Ok d) size (again text d valid describes);
}

not_for_memory-more : (p : Params) (bs : List ℕ) → NotForMemory (if_no_more p bs)
not_for_memory-more p [] = tt
not_for_memory-more p (b ∷ bs) = λ e. cc

letter_not_for_memory : (letters : List ℕ) (w : ℕ) (bs : List ℕ) → NotForMemory (letter_at letters w bs)
letter_not_for_memory letters w bs = grind (arith, nat_tests, not_for_memory-if, not_for_memory-more)

size_not_for_memory : (letters : List ℕ) (adjacent : Bool) (w : ℕ) (bs : List ℕ) → NotForMemory (behind_size letters adjacent w bs)
size_not_for_memory letters adjacent w bs = grind (arith, nat_tests, not_for_memory-if, letter_not_for_memory)

pub params_not_for_memory : (letters : List ℕ) (adjacent : Bool) (text : List ℕ) → NotForMemory (params_at letters adjacent text)
unfolding params_at
params_not_for_memory letters adjacent text = grind (arith, nat_tests, not_for_memory-if, size_not_for_memory)

seed_not_for_memory : (p : Params) (seed : Option ℕ) → NotForMemory (seeded p seed)
seed_not_for_memory p None = λ e. cc
seed_not_for_memory p (Some seed) = tt

parts_not_for_memory : (p : Params) (bs : List ℕ) → NotForMemory (behind_params p bs)
parts_not_for_memory p bs = grind (arith, nat_tests, not_for_memory-if, seed_not_for_memory)

description_not_for_memory : {D : Type 0} (desc_at : ℕ → List ℕ → Result D IdFault)
    → ((w : ℕ) (text : List ℕ) → NotForMemory (desc_at w text)) → (id : GameId (List ℕ))
    → NotForMemory (with_description desc_at id)
description_not_for_memory desc_at not_for_memory (Described p desc) = not_for_memory-then (desc_at p.size desc) _ (not_for_memory p.size desc) (λ d. tt)
description_not_for_memory desc_at not_for_memory (Seeded p seed) = tt

pub id_not_for_memory : {D : Type 0} (letters : List ℕ) (adjacent : Bool) (desc_at : ℕ → List ℕ → Result D IdFault)
    → ((w : ℕ) (text : List ℕ) → NotForMemory (desc_at w text)) → (text : List ℕ)
    → NotForMemory (id_at letters adjacent desc_at text)
unfolding id_parts_at id_at
id_not_for_memory letters adjacent desc_at not_for_memory text =
    grind (
      arith,
      nat_tests,
      not_for_memory-then,
      params_not_for_memory,
      parts_not_for_memory,
      description_not_for_memory,
    )
