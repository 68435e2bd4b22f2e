-- State records and their moves: what is played of the records is played of the moves.
use Rattle.std.proofs.Common.{◌≡◌, ◌≢◌, ℕ, suc, add-zero, ◌+◌, ◌≤◌, true, List, [], ◌∷◌, length, Option, Some, None, Result, Ok, Err, refl, sym, ap, ◌∙◌, subst, arith}
use Rattle.std.specs.Result.{result_ok}
use Rattle.std.proofs.lemmas.Option.{cond_some}
use Rattle.byte_text.proofs.ReadingLaws.{bind_taken, bind_again}
use Rattle.game_texts.specs.declared.id_fault.IdFault.{IdFault}
use Rattle.play_midend.specs.declared.moves.Move.{Move}
use Rattle.play_midend.specs.MoveTexts.{move_at}
use Rattle.play_midend.specs.Histories.{History, played}
use Rattle.play_midend.specs.MoveLists.{played_all}
use Rattle.play_midend.proofs.MoveTextsRead.{text_taken, text_again}
use Rattle.play_midend.proofs.PlayedMoves.{played_puzzle, played_position, first_played}
use Rattle.play_save.specs.declared.fault.LoadFault.TheVariants.{BadState}
use Rattle.play_save.specs.declared.key.StateKey.{StateKey}
use Rattle.play_save.specs.declared.key.StateKey.TheVariants.{AnyMove, SolveMove, RestartMove}
use Rattle.play_save.specs.KeyedRecords.{KeyedState}
use Rattle.play_save.specs.SaveTexts.{SavedGame, is_solve, IsStateOf, HaveStates}
use Rattle.play_save.specs.FirstFaults.{solution_alone, restart_of, state_move, move_played, state_played, states_played, state_fault}
use Rattle.play_midend.proofs.OptionSteps.{and_then_taken, result_taken}
use Rattle.play_save.proofs.GameTexts.{IsGame, same_puzzle, restart_taken, restart_again, other_puzzle}

-- if a result gives a value, it is `Ok` of it
pub ok_taken : {A E : Type 0} (r : Result A E) (a : A) → result_ok r ≡ Some a → r ≡ Ok a
ok_taken (Ok b) a is = cc
ok_taken (Err e) a is = cc

solution_taken : (m n : Move) → solution_alone m ≡ Some n → (m ≡ n) × (is_solve n ≡ true)
solution_taken m n is =
    let alone = cond_some (is_solve m) m n is in (alone.1, ap is_solve (sym alone.1) ∙ alone.0)

-- a puzzle of a width that a text describes
pub record IsDescribed {P : Type 0} (game : SavedGame P) (p : P) : Type 0 where
  pub text : List ℕ
  pub described : game.Describes (game.puzzle p).size p text
  pub smallest : 3 ≤ (game.puzzle p).size
  pub largest : (game.puzzle p).size ≤ 9

-- a move that a state record says is the record's move, and the other way
pub move_of_state : {P : Type 0} (game : SavedGame P) (p : P) (k : StateKey) (value : List ℕ) (m : Move)
    → IsGame game → IsDescribed game p → state_move game p k value ≡ Some m → IsStateOf game p m k value
move_of_state game p AnyMove value m owes d is = text_taken value m (ok_taken (move_at value) m is)
move_of_state game p SolveMove value m owes d is =
    let step = and_then_taken solution_alone (result_ok (move_at value)) m is in
    let alone = solution_taken step.value m step.rest in
    (text_taken value m (ok_taken (move_at value) step.value step.gives ∙ ap Ok alone.0), alone.1)
move_of_state game p RestartMove value m owes d is =
    let w = (game.puzzle p).size in
    let step = and_then_taken (restart_of game p) (result_ok (game.desc_at w value)) m is in
    let read = ok_taken (game.desc_at w value) step.value step.gives in
    let q_is = owes.reads.taken w value step.value d.smallest d.largest read in
    let restart = restart_taken game p step.value m step.rest in
    let same = same_puzzle game w p step.value d.text value owes d.described q_is restart.1 in
    (restart.0, subst (λ q. game.Describes w q value) same q_is)

pub state_of_move : {P : Type 0} (game : SavedGame P) (p : P) (k : StateKey) (value : List ℕ) (m : Move)
    → IsGame game → IsStateOf game p m k value → state_move game p k value ≡ Some m
state_of_move game p AnyMove value m owes is = rw (text_again value m is) refl
state_of_move game p SolveMove value m owes is = rw (text_again value m is.0, is.1) refl
state_of_move game p RestartMove value m owes is =
    let w = (game.puzzle p).size in
    rw (owes.reads.again w value p is.1) (restart_again game p ∙ ap Some (sym is.0))

-- a state record of a move holds no hint and no spent sign
pub state_faultless : {P : Type 0} (game : SavedGame P) (p : P) (k : StateKey) (value : List ℕ) (m : Move)
    → IsStateOf game p m k value → state_fault k value ≡ None
state_faultless game p AnyMove value m is = rw (text_again value m is) refl
state_faultless game p SolveMove value m is = rw (text_again value m is.0) refl
state_faultless game p RestartMove value m is = refl

-- if a state record was played, it said a move, and this was played
move_taken : {P : Type 0} (game : SavedGame P) (h next : History P) (i : ℕ) (o : Option Move)
    → move_played game h i o ≡ Ok next → (m : Move) × (o ≡ Some m) × (played (game.puzzle h.puzzle) h m ≡ Ok next)
move_taken game h next i None made = cc
move_taken game h next i (Some m) made = (m, refl, result_taken (played (game.puzzle h.puzzle) h m) (BadState i) next made)

-- these state records are those of some moves, and the moves lead to this session
pub record ArePlayed {P : Type 0} (game : SavedGame P) (h : History P) (ss : List KeyedState) (last : History P) : Type 0 where
  pub moves : List Move
  pub have : HaveStates game h.puzzle moves ss
  pub played_is : played_all (game.puzzle h.puzzle) h moves ≡ Ok last

pub states_taken : {P : Type 0} (game : SavedGame P) (h last : History P) (i : ℕ) (ss : List KeyedState)
    → IsGame game → IsDescribed game h.puzzle → states_played game h i ss ≡ Ok last → ArePlayed game h ss last
states_taken game h last i [] owes d is =
    let same : h ≡ last = cc in record { moves = []; have = tt; played_is = ap Ok same }
states_taken {P} game h last i (s ∷ ss) owes d is =
    let step = bind_taken (state_played game h i s) _ last is in
    let (made, said, one) = move_taken game h step.value i (state_move game h.puzzle s.key s.value) step.gives in
    let keeps = played_puzzle (game.puzzle h.puzzle) h step.value made one in
    let rest = states_taken game step.value last (i + 1) ss owes (subst (λ p. IsDescribed game p) (sym keeps) d) step.rest in
    let later = subst (λ p. HaveStates game p rest.moves ss) keeps rest.have in
    record {
      moves = made ∷ rest.moves;
      have = (move_of_state game h.puzzle s.key s.value made owes d said, later);
      played_is = rw one (subst (λ p. played_all (game.puzzle p) step.value rest.moves ≡ Ok last) keeps rest.played_is);
    }

played_ok : {P : Type 0} (game : SavedGame P) (h next : History P) (i : ℕ) (m : Move)
    → played (game.puzzle h.puzzle) h m ≡ Ok next → move_played game h i (Some m) ≡ Ok next
played_ok game h next i m is = rw is refl

pub states_again : {P : Type 0} (game : SavedGame P) (h last : History P) (i : ℕ) (ms : List Move) (ss : List KeyedState)
    → IsGame game → HaveStates game h.puzzle ms ss → played_all (game.puzzle h.puzzle) h ms ≡ Ok last
    → states_played game h i ss ≡ Ok last
states_again game h last i [] [] owes have is = let same : h ≡ last = cc in ap Ok same
states_again game h last i [] (s ∷ ss) owes have is = absurd have
states_again game h last i (m ∷ ms) [] owes have is = absurd have
states_again {P} game h last i (m ∷ ms) (s ∷ ss) owes have is =
    let (next, first, rest) = first_played (game.puzzle h.puzzle) h last m ms is in
    more next first rest (λ kept all. states_again game next last (i + 1) ms ss owes kept all)
  where
    more : (next : History P)
        → played (game.puzzle h.puzzle) h m ≡ Ok next → played_all (game.puzzle h.puzzle) next ms ≡ Ok last
        → (HaveStates game next.puzzle ms ss → played_all (game.puzzle next.puzzle) next ms ≡ Ok last
        → states_played game next (i + 1) ss ≡ Ok last)
        → states_played game h i (s ∷ ss) ≡ Ok last
    more next made all along =
        let keeps = played_puzzle (game.puzzle h.puzzle) h next m made in
        let one : state_played game h i s ≡ Ok next =
        ap (move_played game h i) (state_of_move game h.puzzle s.key s.value m owes have.0)
        ∙ played_ok game h next i m made in
        let rest = along (rw keeps have.1) (subst (λ p. played_all (game.puzzle p) next ms ≡ Ok last) (sym keeps) all) in
        bind_again (state_played game h i s) (λ after. states_played game after (i + 1) ss) next one ∙ rest

-- there are as many moves as state records of them
pub have_length : {P : Type 0} (game : SavedGame P) (p : P) (ms : List Move) (ss : List KeyedState)
    → HaveStates game p ms ss → length ms ≡ length ss
have_length game p [] [] have = refl
have_length game p [] (s ∷ ss) have = absurd have
have_length game p (m ∷ ms) [] have = absurd have
have_length game p (m ∷ ms) (s ∷ ss) have = ap suc (have_length game p ms ss have.1)

-- a description that can't be read, or is another puzzle's, is no restart
pub no_restart : {P : Type 0} (game : SavedGame P) (p : P) (value : List ℕ) (e : IdFault)
    → game.desc_at (game.puzzle p).size value ≡ Err e → state_move game p RestartMove value ≡ None
no_restart game p value e is = rw is refl

pub other_restart : {P : Type 0} (game : SavedGame P) (p q : P) (value : List ℕ)
    → IsGame game → IsDescribed game p → q ≢ p → game.desc_at (game.puzzle p).size value ≡ Ok q
    → state_move game p RestartMove value ≡ None
other_restart game p q value owes d other is =
    let w = (game.puzzle p).size in
    rw is (other_puzzle game w p q d.text value owes d.described (owes.reads.taken w value q d.smallest d.largest is) other)

-- each state record leads on by one position
pub position_played : {P : Type 0} (game : SavedGame P) (h last : History P) (i : ℕ) (ss : List KeyedState)
    → states_played game h i ss ≡ Ok last → last.position ≡ h.position + length ss
position_played game h last i [] is =
    let same : h ≡ last = cc in ap (λ k. k.position) (sym same) ∙ sym (add-zero h.position)
position_played {P} game h last i (s ∷ ss) is =
    let step = bind_taken (state_played game h i s) _ last is in
    let (made, said, one) = move_taken game h step.value i (state_move game h.puzzle s.key s.value) step.gives in
    let on = played_position (game.puzzle h.puzzle) h step.value made one in
    let rest = position_played game step.value last (i + 1) ss step.rest in
    omega arith
