-- How the lines that begin a game and are no commands are read: `fair`, `blank`, `item`, `thin` and `fill`.
use Rattle.std.specs.Prelude.{◌≡◌, ℕ, ◌≤◌, ℤ, ◌&&◌, ◌||◌, if◌then◌else◌, List, ◌∷◌, ◌++◌, codes, bytes_eq, Option, Some, None, option_map, option_and_then}
use Rattle.std.specs.Fmt.{decimal}
use Rattle.std.specs.Option.{option_or}
use denote.Ref.{Bor}
use Rattle.byte_text.specs.Bytes.{space, comma}
use Rattle.byte_text.specs.Cuts.{Lacks, before, behind}
use Rattle.byte_text.specs.Decimals.{decimal_value}
use Rattle.play_midend.specs.MoveTexts.{coordinate_at}
use Rattle.line_replies.specs.Lines.{Line}
use Rattle.line_replies.specs.Inner.CommandReading.{rest_behind}
use Rattle.json_replies.specs.declared.begin_line.BeginLine.{BeginLine}
use Rattle.json_replies.specs.declared.begin_line.BeginLine.TheVariants.{Fair, Blank, Item, Thin, ThinBy, Fill}
use Rattle.json_replies.specs.declared.begin_line.FirstTried.{FirstTried}
use Rattle.json_replies.specs.declared.begin_line.FirstTried.TheVariants.{Givens, Others}
use Rattle.json_replies.specs.declared.fair_words.FairWords.{FairWords}
use Rattle.json_replies.specs.declared.item_words.ItemNumbers.{ItemNumbers}
use Rattle.json_replies.specs.declared.item_words.ItemNumbers.TheVariants.{Place, Sign}
use Rattle.json_replies.specs.FairLines.{is_word, one_word_at, words_copied}

-- the line with its words themselves in place of loans of them
abbrev pub begin_copied : {X : Type 0} → BeginLine (Bor X) → BeginLine X
begin_copied (Fair words) = Fair (words_copied words)
begin_copied (Blank word) = Blank word.now
begin_copied (Item numbers) = Item numbers
begin_copied Thin = Thin
begin_copied (ThinBy word first) = ThinBy word.now first
begin_copied Fill = Fill

-- ---- words

-- three words as those of a line `fair`, if each of them is a word
abbrev pub words_of : List ℕ → List ℕ → List ℕ → Option (FairWords (List ℕ))
words_of size grade seed =
    if is_word size && is_word grade && is_word seed then Some (record { size = size; grade = grade; seed = seed })
    else None

-- the three words of a text, if it is three words with one space between each
abbrev pub three_words_at : List ℕ → Option (FairWords (List ℕ))
three_words_at text =
    option_and_then (λ rest. option_and_then (λ seed. words_of (before space text) (before space rest) seed)
    (behind space rest)) (behind space text)

-- which items are tried first, by the word behind the letter of a line `thin`, if there is one: givens, or clues or signs
abbrev pub first_tried_at : Option (List ℕ) → Option FirstTried
first_tried_at None = Some Givens
first_tried_at (Some word) =
    if bytes_eq word (codes "givens") then Some Givens
    else (if bytes_eq word (codes "clues") || bytes_eq word (codes "signs") then Some Others else None)

-- a letter, and which items are tried first, from the text behind `thin `
abbrev pub thin_at : List ℕ → Option (BeginLine (List ℕ))
thin_at text =
    option_and_then (λ first. option_map (λ letter. ThinBy letter first) (one_word_at (before space text)))
    (first_tried_at (behind space text))

-- ---- numbers

-- an item at a place, from three pieces of a text
abbrev pub place_item_at : List ℕ → List ℕ → List ℕ → Option ItemNumbers
place_item_at xs ys ns =
    option_and_then (λ x. option_and_then (λ y. option_map (λ n. Place x y n) (decimal_value 255 ns))
    (coordinate_at ys)) (coordinate_at xs)

-- an item between two squares, from three pieces and the rest, which is two
abbrev pub sign_item_at : List ℕ → List ℕ → List ℕ → List ℕ → Option ItemNumbers
sign_item_at xs ys us more =
    option_and_then (λ ns. option_and_then (λ x. option_and_then (λ y. option_and_then (λ u. option_and_then (λ v.
    option_map (λ n. Sign x y u v n) (decimal_value 255 ns)) (coordinate_at (before comma more))) (coordinate_at us))
    (coordinate_at ys)) (coordinate_at xs)) (behind comma more)

-- an item of either kind, from two pieces, the rest, and the part of the rest behind its comma, if it has one
abbrev pub item_from : List ℕ → List ℕ → List ℕ → Option (List ℕ) → Option ItemNumbers
item_from xs ys rest None = place_item_at xs ys rest
item_from xs ys rest (Some more) = sign_item_at xs ys (before comma rest) more

-- the numbers of a text that is three or five, with a comma between each
abbrev pub item_at : List ℕ → Option ItemNumbers
item_at text =
    option_and_then (λ rest. option_and_then (λ more. item_from (before comma text) (before comma rest) more
    (behind comma more)) (behind comma rest)) (behind comma text)

-- ---- lines

-- which game a text begins, if it does
abbrev pub begun_at : List ℕ → Option (BeginLine (List ℕ))
begun_at text =
    if bytes_eq text (codes "thin") then Some Thin
    else (if bytes_eq text (codes "fill") then Some Fill
    else (option_or (option_and_then thin_at (rest_behind (codes "thin ") text))
    (option_or (option_map Fair (option_and_then three_words_at (rest_behind (codes "fair ") text)))
    (option_or (option_map Blank (option_and_then one_word_at (rest_behind (codes "blank ") text)))
    (option_map Item (option_and_then item_at (rest_behind (codes "item ") text)))))))

-- which game a line begins, if any: a line that is too long begins none
abbrev pub begin_at : Line → Option (BeginLine (List ℕ))
begin_at line = option_and_then begun_at line

-- the line, as it is read, begins this game
abbrev pub IsBeginLine : BeginLine (List ℕ) → Line → Type 0
IsBeginLine asked line = begin_at line ≡ Some asked

-- ---- what the numbers of an item look like

-- the text is x, written as a coordinate of a move, then a comma, and then the rest
abbrev pub IsAfter : ℤ → List ℕ → List ℕ → Type 0
IsAfter x rest text = (xs : List ℕ) × (text ≡ xs ++ comma ∷ rest) × Lacks comma xs × (coordinate_at xs ≡ Some x)

-- the text is these numbers in decimal, with a comma between each: coordinates as those of a move, and what the item is
-- to say, up to 255
abbrev pub IsItemText : ItemNumbers → List ℕ → Type 0
IsItemText (Place x y n) text = (n ≤ 255) × ((rest : List ℕ) × IsAfter x rest text × IsAfter y (decimal n) rest)
IsItemText (Sign x y u v n) text =
    (n ≤ 255) × ((rest last more : List ℕ) × IsAfter x rest text × IsAfter y last rest × IsAfter u more last
    × IsAfter v (decimal n) more)

-- `item ` and the text of some numbers ask for these numbers, and so for no others
abbrev pub ItemLinesAsk : Type 0
ItemLinesAsk =
    (numbers : ItemNumbers) (text : List ℕ) → IsItemText numbers text
    → IsBeginLine (Item numbers) (Some (codes "item " ++ text))
