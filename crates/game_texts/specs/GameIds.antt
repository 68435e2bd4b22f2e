-- Game IDs: their texts, and reading one.
use Rattle.std.specs.Prelude.{◌≡◌, ℕ, ◌^◌, ◌<◌, List, ◌∷◌, ◌++◌, Bool, false, All, ◌==◌, ◌||◌, if◌then◌else◌, [], Option, Some, None, Result, Ok, Err}
use Rattle.std.specs.Fmt.{decimal}
use Rattle.game_texts.specs.declared.game_id.GameId.{GameId}
use Rattle.game_texts.specs.declared.game_id.GameId.TheVariants.{Described, Seeded}
use Rattle.game_texts.specs.Parameters.{IsParams, params_text, params_at}
use Rattle.byte_text.specs.Decimals.{decimal_value}
use Rattle.byte_text.specs.Reading.{◌>>=◌}
use Rattle.game_texts.specs.declared.id_fault.IdFault.{IdFault}
use Rattle.game_texts.specs.declared.id_fault.IdFault.TheVariants.{ForeignSeed, NoDescription, BadSeed}
use Rattle.game_texts.specs.declared.params.Params.{Params}
use Rattle.trail_solver.specs.Puzzles.{Puzzle}
use Rattle.byte_text.specs.Bytes.{colon, hash, exclamation}

-- The text says the ID, where IsDesc w d desc is that desc describes the puzzle d, of size w.
abbrev pub IsIdText : {D : Type 0} → List ℕ → (ℕ → D → List ℕ → Type 0) → GameId D → List ℕ → Type 0
IsIdText letters IsDesc (Described p d) text =
    IsParams letters p × ((desc : List ℕ) × (text ≡ params_text p ++ colon ∷ desc) × IsDesc p.size d desc)
IsIdText letters IsDesc (Seeded p seed) text =
    IsParams letters p × (seed < 2 ^ 64) × (text ≡ params_text p ++ exclamation ∷ decimal seed)

-- Any text will do as a description, and is kept as it is: for IDs whose description isn't read.
abbrev pub IsAnyText : ℕ → List ℕ → List ℕ → Type 0
IsAnyText w desc text = desc ≡ text

-- the byte is `:`, `#` or `!`
abbrev pub is_separator : ℕ → Bool
is_separator b = (b == colon) || ((b == hash) || (b == exclamation))

-- what stands before the first separator
abbrev pub params_part : List ℕ → List ℕ
params_part [] = []
params_part (b ∷ bs) = if is_separator b then [] else (b ∷ params_part bs)

-- what stands from the first separator on
abbrev pub from_separator : List ℕ → List ℕ
from_separator [] = []
from_separator (b ∷ bs) = if is_separator b then (b ∷ bs) else from_separator bs

-- the greatest seed
abbrev pub largest_seed : ℕ
largest_seed = 18446744073709551615

-- the ID with a seed, where one could be read
abbrev pub seeded : Params → Option ℕ → Result (GameId (List ℕ)) IdFault
seeded p None = Err BadSeed
seeded p (Some seed) = Ok (Seeded p seed)

-- the ID with the parameters p, by what stands from the separator on, or its first fault
abbrev pub behind_params : Params → List ℕ → Result (GameId (List ℕ)) IdFault
behind_params p [] = Err NoDescription
behind_params p (separator ∷ bs) =
    if separator == hash then Err ForeignSeed
    else (if separator == exclamation then seeded p (decimal_value largest_seed bs) else Ok (Described p bs))

-- the ID that a text says with its description as a text, or the first fault of what stands before the description
unfoldable pub id_parts_at : List ℕ → Bool → List ℕ → Result (GameId (List ℕ)) IdFault
id_parts_at letters has_adjacent text =
    params_at letters has_adjacent (params_part text) >>= λ p. behind_params p (from_separator text)

-- the ID with its description read at the size of its parameters
abbrev pub with_description : {D : Type 0} → (ℕ → List ℕ → Result D IdFault) → GameId (List ℕ)
    → Result (GameId D) IdFault
with_description desc_at (Described p desc) = desc_at p.size desc >>= λ d. Ok (Described p d)
with_description desc_at (Seeded p seed) = Ok (Seeded p seed)

-- the ID that a text says, or its first fault
unfoldable pub id_at : {D : Type 0} → List ℕ → Bool → (ℕ → List ℕ → Result D IdFault) → List ℕ
    → Result (GameId D) IdFault
id_at letters has_adjacent desc_at text = id_parts_at letters has_adjacent text >>= with_description desc_at

-- the ID with f applied to its puzzle, and the same parameters or seed
abbrev pub id_map : {X Y : Type 0} → (X → Y) → GameId X → GameId Y
id_map f (Described p x) = Described p (f x)
id_map f (Seeded p seed) = Seeded p seed

-- no letter of the game is a separator
abbrev pub LacksSeparators : List ℕ → Type 0
LacksSeparators letters = All (λ letter. is_separator letter ≡ false) letters

-- The text describes the puzzle, and the puzzle is one of this width.
abbrev pub describes_at : {D : Type 0} → (D → Puzzle) → (D → Type 0) → (List ℕ → D → Type 0) → ℕ → D → List ℕ → Type 0
describes_at puzzle valid describes w d text = describes text d × valid d × ((puzzle d).size ≡ w)
