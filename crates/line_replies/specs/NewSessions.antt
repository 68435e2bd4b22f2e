-- The session that a game ID gives: that of the described puzzle, or of the one generated from a seed.
use Rattle.std.specs.Prelude.{◌≡◌, ◌⊎◌, List, ℕ, None, Result, Ok, Err}
use Rattle.game_texts.specs.declared.id_fault.IdFault.{IdFault}
use Rattle.game_texts.specs.declared.id_fault.IdFault.TheVariants.{OutOfMemory as IdOutOfMemory}
use Rattle.game_texts.specs.declared.params.Params.{Params}
use Rattle.game_texts.specs.declared.game_id.GameId.{GameId}
use Rattle.game_texts.specs.declared.game_id.GameId.TheVariants.{Described, Seeded}
use Rattle.game_texts.specs.GameIds.{IsIdText, id_at, describes_at}
use Rattle.puzzle_gen.specs.declared.gen_fault.GenFault.{GenFault}
use Rattle.puzzle_gen.specs.Generating.{Generates}
use Rattle.play_midend.specs.declared.extras.Extras.{Extras}
use Rattle.play_midend.specs.Histories.{History, started}
use Rattle.line_replies.specs.declared.start.start_fault.StartFault.{StartFault}
use Rattle.line_replies.specs.declared.start.start_fault.StartFault.TheVariants.{Id, Gen, OutOfMemory}
use Rattle.line_replies.specs.GameFacts.{GameFacts}

-- the text says the ID, or has this fault first
abbrev pub IsIdRead : {P : Type 0} → GameFacts P → List ℕ → Result (GameId P) IdFault → Type 0
IsIdRead f text (Ok id) = IsIdText f.letters (describes_at f.rules.puzzle f.rules.valid f.describes) id text
IsIdRead f text (Err fault) = id_at f.letters f.has_adjacent f.desc_at text ≡ Err fault

-- nothing that a save has kept
abbrev pub no_extras : Extras
no_extras = record { seed = None; auxinfo = None; ui = None; time = None }

-- a new session, with nothing kept for a save
abbrev pub new_game : {P : Type 0} → Params → P → History P
new_game params puzzle = started puzzle params params no_extras

-- the session of a puzzle that is generated, or why there is none
abbrev pub generated_game : {P : Type 0} → Params → Result P GenFault → Result (History P) StartFault
generated_game params (Ok puzzle) = Ok (new_game params puzzle)
generated_game params (Err fault) = Err (Gen fault)

-- the refusal for a fault of an ID: OutOfMemory is OutOfMemory
abbrev pub id_refusal : IdFault → StartFault
id_refusal IdOutOfMemory = OutOfMemory
id_refusal fault = Id fault

-- an ID that was read so gives this session, or is refused so
abbrev pub IdBegins : {P : Type 0} → GameFacts P → Result (GameId P) IdFault → Result (History P) StartFault → Type 0
IdBegins f (Ok (Described params puzzle)) exact = Ok (new_game params puzzle) ≡ exact
IdBegins {P} f (Ok (Seeded params seed)) exact =
    (made : Result P GenFault) × Generates f.rules params seed made × (generated_game params made ≡ exact)
IdBegins f (Err fault) exact = Err (id_refusal fault) ≡ exact

-- the text of an ID gives this session, or is refused so
abbrev pub TextBegins : {P : Type 0} → GameFacts P → List ℕ → Result (History P) StartFault → Type 0
TextBegins {P} f text exact = (read : Result (GameId P) IdFault) × IsIdRead f text read × IdBegins f read exact

-- The refusal is what comes with ample memory, or OutOfMemory in place of a session.
abbrev pub IsStartRefusal : {P : Type 0} → (Result (History P) StartFault → Type 0) → StartFault → Type 0
IsStartRefusal {P} Comes fault =
    Comes (Err fault) ⊎ ((fault ≡ OutOfMemory) × ((session : History P) × Comes (Ok session)))
