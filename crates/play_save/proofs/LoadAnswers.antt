-- The meaning of loading's answer for the text, by the laws of save texts.
use Rattle.std.proofs.Common.{◌≡◌, ℕ, ◌<◌, List, length, Result, Ok, Err, IfOk, refl, subst}
use Rattle.std.proofs.lemmas.Bool.{lt-ltb}
use Rattle.byte_text.specs.Reading.{GivesUnless}
use Rattle.trail_solver.specs.declared.rules.Rules.{Ghosts as RulesGhosts}
use Rattle.game_texts.specs.declared.game.Game.{Ghosts as GameGhosts}
use Rattle.play_midend.specs.Histories.{History}
use Rattle.play_save.specs.declared.fault.LoadFault.{LoadFault}
use Rattle.play_save.specs.declared.fault.LoadFault.TheVariants.{TooLarge, OutOfMemory}
use Rattle.play_save.specs.declared.save_format.TheConstants.{MOST_BYTES}
use Rattle.play_save.specs.declared.key.WhoseParams.TheVariants.{Next, Current}
use Rattle.play_save.specs.declared.key.HeaderKey.TheVariants.{ParamsOf, Desc}
use Rattle.play_save.specs.SaveTexts.{SavedGame, saves_of, SaveText}
use Rattle.play_save.specs.FirstFaults.{load_at}
use Rattle.play_save.specs.Laws.{SavesOneSession, FaultsWhereNone, SavesAreStorable}
use Rattle.play_save.proofs.GameTexts.{IsGame}
use Rattle.play_save.proofs.SavedTaken.{load_taken}
use Rattle.play_save.proofs.SavedAgain.{load_again}

pub load_found : {P : Type 0} (game : SavedGame P) (text : List ℕ) (answer : Result (History P) LoadFault)
    → IsGame game → GivesUnless OutOfMemory (λ s. s) answer (load_at game text)
    → IfOk answer (λ s. SaveText game s text)
load_found game text (Ok s) owes gives = load_taken game text s owes gives
load_found game text (Err e) owes gives = tt

pub load_only : {P : Type 0} (game : SavedGame P) (text : List ℕ) (h : History P) (answer : Result (History P) LoadFault)
    → IsGame game → GivesUnless OutOfMemory (λ s. s) answer (load_at game text) → SaveText game h text
    → GivesUnless OutOfMemory (λ s. s) answer (Ok h)
load_only game text h answer owes gives is =
    subst (GivesUnless OutOfMemory (λ s. s) answer) (load_again game text h owes is) gives

-- a text is a save of one session at most
pub saves_one_session : {P : Type 0} (game : SavedGame P) → IsGame game → SavesOneSession game
saves_one_session game owes one other text one_is other_is =
    let read_one = load_again game text one owes one_is in
    let read_other = load_again game text other owes other_is in
    cc

pub faults_where_none : {P : Type 0} (game : SavedGame P) → IsGame game → FaultsWhereNone game
faults_where_none {P} game owes text = (
  λ fault. λ h is. (let read = load_again game text h owes is in let no_read = fault.1 in cc),
  λ none. by_read (load_at game text) refl none,
)
  where
    by_read : (read : Result (History P) LoadFault)
        → load_at game text ≡ read → ((h : History P) → SaveText game h text → ⊥)
        → (fault : LoadFault) × (read ≡ Err fault)
    by_read (Ok h) is none = absurd (none h (load_taken game text h owes is))
    by_read (Err fault) is none = (fault, refl)

-- a session that a text is a save of can be stored
pub saves_are_storable : {P : Type 0} (rules : RulesGhosts P) (game : GameGhosts P) → SavesAreStorable (saves_of rules game) rules.valid
saves_are_storable rules game h text save =
    let values = save.saved.values in
    let (describes, valid, size) = (values Desc).holds in
    record {
      session = save.saved.valid;
      puzzle_is = valid;
      params_are = (values (ParamsOf Current)).holds.params;
      next_params_are = (values (ParamsOf Next)).holds.params;
    }

-- the first fault of a text that is too long is TooLarge
pub too_large : {P : Type 0} (game : SavedGame P) (text : List ℕ) → MOST_BYTES < length text → load_at game text ≡ Err TooLarge
unfolding load_at
too_large game text long = rw (lt-ltb MOST_BYTES (length text) long) refl
