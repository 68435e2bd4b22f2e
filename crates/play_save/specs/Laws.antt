-- The laws of save texts, over the definitions alone.
use Rattle.std.specs.Prelude.{◌≡◌, ◌↔◌, ℕ, ◌≤◌, List, length, Err}
use Rattle.play_midend.specs.Histories.{History, IsValid, IsStorable}
use Rattle.play_save.specs.declared.fault.LoadFault.{LoadFault}
use Rattle.play_save.specs.declared.save_format.TheConstants.{MOST_BYTES}
use Rattle.play_save.specs.SaveTexts.{SavedGame, SaveText}
use Rattle.play_save.specs.FirstFaults.{load_at}
use Rattle.play_save.specs.Written.{save_of}

-- a text is a save of at most one session
abbrev pub SavesOneSession : {P : Type 0} → SavedGame P → Type 0
SavesOneSession {P} game =
    (one other : History P) (text : List ℕ) → SaveText game one text → SaveText game other text → one ≡ other

-- a text has a first fault just where it is a save of no session
abbrev pub FaultsWhereNone : {P : Type 0} → SavedGame P → Type 0
FaultsWhereNone {P} game =
    (text : List ℕ) → ((fault : LoadFault) × (load_at game text ≡ Err fault))
    ↔ ((h : History P) → SaveText game h text → ⊥)

-- a session that a text is a save of can be stored
abbrev pub SavesAreStorable : {P : Type 0} → SavedGame P → (P → Type 0) → Type 0
SavesAreStorable {P} game of_game =
    (h : History P) (text : List ℕ) → SaveText game h text → IsStorable game.puzzle of_game game.letters h

-- what is written of a storable session is a save of it, where it is within the size that a save text may have
abbrev pub WrittenIsSaved : {P : Type 0} → SavedGame P → (P → Type 0) → Type 0
WrittenIsSaved {P} game of_game =
    (h : History P) → IsStorable game.puzzle of_game game.letters h
    → length (save_of game.title game.desc_of h) ≤ MOST_BYTES
    → SaveText game h (save_of game.title game.desc_of h)

-- what is written of a valid session is a save of that session at most, and only of a storable one
abbrev pub WrittenSavesNoOther : {P : Type 0} → SavedGame P → (P → Type 0) → Type 0
WrittenSavesNoOther {P} game of_game =
    (h other : History P) → IsValid (game.puzzle h.puzzle) h → of_game h.puzzle
    → SaveText game other (save_of game.title game.desc_of h)
    → (other ≡ h) × IsStorable game.puzzle of_game game.letters h
