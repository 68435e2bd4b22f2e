-- Records taken in turn: what was met after one more, and what the code keeps of it.
use Rattle.std.specs.Prelude.{◌≡◌, ◌⊎◌, ℕ, ◌+◌, ◌≤◌, if◌then◌else◌, List, [], ◌∷◌, ◌++◌, length, map, Option, Some, None, option_map, Result, Ok, Err}
use Rattle.std.specs.Borrow.{Bor}
use Rattle.play_midend.specs.declared.session.TheConstants.{MOST_STATES}
use Rattle.play_save.specs.declared.fault.LoadFault.{LoadFault}
use Rattle.play_save.specs.declared.fault.LoadFault.TheVariants.{OutOfMemory}
use Rattle.play_save.specs.declared.met.StateRecord.{StateRecord}
use Rattle.play_save.specs.declared.met.Met.{Met}
use Rattle.play_save.specs.declared.key.WhichCount.TheVariants.{Position}
use Rattle.play_save.specs.declared.key.HeaderKey.{HeaderKey}
use Rattle.play_save.specs.declared.key.Key.{Key}
use Rattle.play_save.specs.declared.key.Key.TheVariants.{Header, State, Other}
use Rattle.play_save.specs.Keys.{same_header}
use Rattle.play_save.specs.KeyedRecords.{KeyedState, values_of}
use Rattle.play_save.specs.SaveTexts.{SavedGame}
use Rattle.play_save.specs.Inner.Headers.{header_of}
use Rattle.play_save.specs.FirstFaults.{MetValue, first_of, count_met, fault_by}

-- a state record that the code keeps, as contracts see it
abbrev pub state_of : StateRecord → KeyedState
state_of s = record { key = s.key; value = s.value.now }

-- the bytes that are borrowed, if any are
abbrev pub bytes_of : Option (Bor (List ℕ)) → Option (List ℕ)
bytes_of kept = option_map (λ bytes. bytes.now) kept

-- what was met, as contracts see it
abbrev pub met_of : Met → MetValue
met_of f =
    record { first = λ k. first_of (values_of k (map header_of f.headers.items)); states = map state_of f.states.items }

-- the records can be played and gone back along: there are fewer than MOST_STATES states after the first, and the
-- position is one of them
pub record IsPlayable (m : MetValue) : Type 0 where
  pub few : length m.states + 1 ≤ MOST_STATES
  pub inside : (position : ℕ) → count_met m Position ≡ Some position → (1 ≤ position) × (position ≤ length m.states + 1)

-- the first value of each header after one more record of the header k
abbrev pub with_first : (HeaderKey → Option (List ℕ)) → HeaderKey → List ℕ → HeaderKey → Option (List ℕ)
with_first first k value j = if same_header k j then Some value else first j

-- what was met after one more record: with the value of a header, or with one state record more
abbrev pub added : MetValue → Key → List ℕ → MetValue
added m (Header k) value = record m { first = with_first m.first k value }
added m (State k) value = record m { states = m.states ++ record { key = k; value = value } ∷ [] }
added m Other value = m

-- A record is taken, or refused with its fault or for memory.
abbrev pub Taken : {P : Type 0} → SavedGame P → MetValue → Key → List ℕ → Result (Unit {0}) LoadFault → MetValue
    → Type 0
Taken game old k value (Ok u) new = (fault_by game old k value ≡ None) × (new ≡ added old k value)
Taken game old k value (Err fault) new = (fault ≡ OutOfMemory) ⊎ (fault_by game old k value ≡ Some fault)
