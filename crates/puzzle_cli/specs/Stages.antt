-- The stages of a program: each gives something, or its fault is the program's end.
use Rattle.std.specs.Prelude.{◌≡◌, ◌⊎◌, Result, Ok, Err}
use Rattle.puzzle_cli.specs.declared.fault.Fault.{Fault}

-- what may come of a stage: by what is around it, what it gives or its fault, and what is around it then
abbrev pub Stage : Type 0 → Type 0 → Type 1
Stage S A = S → Result A Fault → S → Type 0

-- there is an answer, and the next stage ends so by it; or a fault tells why there is none, and nothing is changed
abbrev pub AnswerThen : {S A B E : Type 0} → (E → Fault) → (Result A E → Type 0) → (A → Stage S B) → Stage S B
AnswerThen {S} {A} {B} {E} told answers next old result new =
    ((given : A) × answers (Ok given) × next given old result new)
    ⊎ ((why : E) × answers (Err why) × (result ≡ Err (told why)) × (new ≡ old))

-- a stage and then an answer by what it gave; a fault is that of the stage, or tells why there is no answer
abbrev pub ThenAnswer : {S A B : Type 0} → Stage S A → (A → Result B Fault → Type 0) → Stage S B
ThenAnswer {S} {A} stage answers old (Ok answer) new = (given : A) × stage old (Ok given) new × answers given (Ok answer)
ThenAnswer {S} {A} stage answers old (Err fault) new =
    stage old (Err fault) new ⊎ ((given : A) × stage old (Ok given) new × answers given (Err fault))

-- A stage of files, one of what is beside them by what it gave, and another of files. They end well where all do, and
-- with the fault of one of them where those before it went well, and nothing is done after it.
abbrev pub InTurn : {F S A B C : Type 0} → Stage F A → (A → Stage S B) → (B → Stage F C) → Stage (F × S) C
InTurn {F} {S} {A} {B} first between last old (Ok done) new =
    (given : A) × (files : F) × (made : B)
    × first old.0 (Ok given) files × between given old.1 (Ok made) new.1 × last made files (Ok done) new.0
InTurn {F} {S} {A} {B} first between last old (Err fault) new =
    (first old.0 (Err fault) new.0 × (new.1 ≡ old.1))
    ⊎ ((given : A) × first old.0 (Ok given) new.0 × between given old.1 (Err fault) new.1)
    ⊎ ((given : A) × (files : F) × (made : B)
    × first old.0 (Ok given) files × between given old.1 (Ok made) new.1 × last made files (Err fault) new.0)
