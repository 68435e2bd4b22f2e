-- The steps of a hint as data: where each looks, what it strikes, and its sentence.
use Rattle.std.specs.Prelude.{ℕ, Bool, List, codes, if◌then◌else◌, Option, Some, None, slice_index}
use Rattle.std.specs.List.{range_with_len}
use Rattle.serde_json.specs.Data.{Data, null, number, string, object, no_members, member}
use Rattle.serde_json.specs.Find.{of_integer}
use Rattle.number_sets.specs.Sets.{has_number}
use Rattle.latin_board.specs.Edges.{edge_xy}
use Rattle.step_texts.specs.declared.told.KnownSquare.{KnownSquare}
use Rattle.step_texts.specs.declared.told.SignEnd.{SignEnd}
use Rattle.step_texts.specs.declared.told.SignEnd.TheVariants.{AtLeast, AtMost}
use Rattle.step_texts.specs.declared.told.Strike.{Strike}
use Rattle.step_texts.specs.declared.told.ToldStep.{ToldStep}
use Rattle.step_texts.specs.declared.told.Seen.{Seen}
use Rattle.step_texts.specs.declared.told.Seen.TheVariants.{Fewer, More, Open}
use Rattle.step_texts.specs.declared.told.TowerPlace.{TowerPlace}
use Rattle.step_texts.specs.declared.told.TowerPlace.TheVariants.{There, Elsewhere, Only, Either}
use Rattle.step_texts.specs.declared.told.TowerSquare.{TowerSquare}
use Rattle.step_texts.specs.Headings.{step_name}
use Rattle.step_texts.specs.Lines.{line_texts}
use Rattle.json_replies.specs.declared.reason_parts.Ends.{Ends}
use Rattle.json_replies.specs.Boards.{listed_data, when, mark_set_data}
use Rattle.json_replies.specs.Counts.{count_data}
use Rattle.json_replies.specs.Texts.{text_data, list_data}
use Rattle.json_replies.specs.Reasons.{ReasonParts, parts_of}

-- ---- the clue and the sign of a reason

-- the x of the clue's place, as in the move that marks the clue as done, or null without a clue
abbrev pub x_data : ℕ → Option ℕ → Data
x_data w None = null
x_data w (Some place) = number (of_integer (edge_xy w place).0)

-- the y of the clue's place, or null without a clue
abbrev pub y_data : ℕ → Option ℕ → Data
y_data w None = null
y_data w (Some place) = number (of_integer (edge_xy w place).1)

-- the number of the clue, or null without a clue
abbrev pub edge_clue_data : (ℕ → ℕ) → Option ℕ → Data
edge_clue_data clue None = null
edge_clue_data clue (Some place) = count_data (clue place)

-- the greater square of a sign, or null without a sign
abbrev pub greater_data : Option Ends → Data
greater_data None = null
greater_data (Some ends) = count_data ends.greater

-- the lesser square of a sign, or null without a sign
abbrev pub less_data : Option Ends → Data
less_data None = null
less_data (Some ends) = count_data ends.less

-- the least number that is told of the other square of a sign, which may have it alone, or null
abbrev pub least_data : Bool → Option SignEnd → Data
least_data alone None = null
least_data alone (Some (AtLeast n)) = count_data n
least_data alone (Some (AtMost n)) = if alone then count_data n else null

-- the greatest number that is told of it, or null
abbrev pub most_data : Bool → Option SignEnd → Data
most_data alone None = null
most_data alone (Some (AtLeast n)) = if alone then count_data n else null
most_data alone (Some (AtMost n)) = count_data n

-- ---- what is struck

-- for each of the numbers, the counts of towers that are shown with it
abbrev pub counts_data : ℕ → List ℕ → Data
counts_data values shows =
    listed_data (λ n. when (has_number values n) (mark_set_data (slice_index shows n))) (range_with_len 1 9)

-- the counts of towers for each of the numbers if a clue strikes them, and otherwise null
abbrev pub shows_data : ℕ → Option (List ℕ) → Data
shows_data values None = null
shows_data values (Some shows) = counts_data values shows

-- a square, the numbers that are struck there, and what a clue would show with them
abbrev pub strike_data : Strike → Data
strike_data strike = object
    (member (codes "cell") (count_data strike.cell)
    (member (codes "numbers") (mark_set_data strike.values)
    (member (codes "shows") (shows_data strike.values strike.shows)
    no_members)))

-- ---- what is known

-- a square that a sentence names, and the numbers that are left of it
abbrev pub known_data : KnownSquare → Data
known_data square = object
    (member (codes "cell") (count_data square.cell)
    (member (codes "numbers") (mark_set_data square.numbers)
    no_members))

-- ---- where tall towers are

-- whether a tall tower is in a square, as a word
abbrev pub place_word : TowerPlace → List ℕ
place_word There = codes "in"
place_word Elsewhere = codes "not"
place_word Only = codes "only"
place_word Either = codes "either"

-- the towers that would be seen beside a clue, as a word, or null
abbrev pub seen_data : Seen → Data
seen_data Fewer = string (codes "fewer")
seen_data More = string (codes "more")
seen_data Open = null

-- a square of which a sentence tells whether a tall tower is there
abbrev pub tower_data : TowerSquare → Data
tower_data tower = object
    (member (codes "cell") (count_data tower.cell)
    (member (codes "number") (count_data tower.number)
    (member (codes "place") (string (place_word tower.place))
    (member (codes "seen") (seen_data tower.seen)
    no_members))))

-- ---- steps

-- the squares that are known and the bounds of a sign's other square that a told step has, its name, what it strikes and
-- its sentence
pub record ToldData : Type 0 where
  pub known : Data
  pub least : Data
  pub most : Data
  pub name : List ℕ
  pub split : Data
  pub strikes : Data
  pub text : Data

-- the parts of a reason, with what is told of it, of a puzzle of a width with these clues
abbrev pub look_data : ℕ → (ℕ → ℕ) → ReasonParts → ToldData → Data
look_data w clue parts told = object
    (member (codes "cells") parts.cells
    (member (codes "clue") (edge_clue_data clue parts.edge)
    (member (codes "greater") (greater_data parts.ends)
    (member (codes "known") told.known
    (member (codes "least") told.least
    (member (codes "less") (less_data parts.ends)
    (member (codes "line") parts.line
    (member (codes "most") told.most
    (member (codes "name") (string told.name)
    (member (codes "numbers") parts.numbers
    (member (codes "reason") (string parts.word)
    (member (codes "split") told.split
    (member (codes "strikes") told.strikes
    (member (codes "text") told.text
    (member (codes "x") (x_data w parts.edge)
    (member (codes "y") (y_data w parts.edge)
    no_members))))))))))))))))

-- a step as it is told, of a puzzle of a width with these clues and signs
abbrev pub step_data : ℕ → (ℕ → ℕ) → (ℕ → ℕ → Bool) → ToldStep → Data
step_data w clue is_over told =
    look_data w clue (parts_of w is_over told.reason) (record {
      known = list_data known_data told.known.items;
      least = least_data told.is_alone told.end;
      most = most_data told.is_alone told.end;
      name = step_name w clue told;
      split = list_data tower_data told.towers.items;
      strikes = list_data strike_data told.strikes.items;
      text = list_data text_data (line_texts told.text.items);
    })

-- steps as they are told
abbrev pub steps_data : ℕ → (ℕ → ℕ) → (ℕ → ℕ → Bool) → List ToldStep → Data
steps_data w clue is_over steps = list_data (step_data w clue is_over) steps
